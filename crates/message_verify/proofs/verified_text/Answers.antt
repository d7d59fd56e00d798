-- `verified_text` meets its contract: room, then the MAC, then the text, then the caller's buffer.
use mathlib.Core.Path.{ap, ◌∙◌}
use Rattle.octets.proofs.Tests.{outcome}
use Rattle.session_suite.specs.StoredKeys.{key_in}
use Rattle.message_mac.specs.Same.{same}
use Rattle.message_verify.specs.VerifiedText.{received}
use Rattle.message_verify.proofs.Stages.{no_room, wrong_mac, text_verified}
use Rattle.message_verify.proofs.verified_text.Goals as goal

pub returns-then-needed-out : goal.returns-then-needed-out
returns-then-needed-out c =
    let a = c.args in
    let m = no_room (key_in a.key.suite a.key.bytes) a.counter a.full (received a.mac.now a.ciphertext.now) a.out.now c.if-needed-out.true in
    record { answer = m.0; output = m.1 }

pub returns-then-not-mac_matches : goal.returns-then-not-mac_matches
returns-then-not-mac_matches c =
    let a = c.args in
    let m = wrong_mac (key_in a.key.suite a.key.bytes) a.counter a.full (received a.mac.now a.ciphertext.now) a.out.now c.if-needed-out.false
    (outcome _ (c.mac_matches.ensures ∙ ap (same a.mac.now) c.truncated.ensures) c.if-not-mac_matches.true) in
    record { answer = m.0; output = m.1 }

pub decrypt_text-text-requires : goal.decrypt_text-text-requires
decrypt_text-text-requires c =
    let sized = c.requires in
    (sized.blocks, sized.short, c.if-needed-out.false)

pub returns : goal.returns
returns c =
    let a = c.args in
    let m = text_verified (key_in a.key.suite a.key.bytes) a.counter a.full (received a.mac.now a.ciphertext.now) a.out.now c.if-needed-out.false
    (outcome _ (c.mac_matches.ensures ∙ ap (same a.mac.now) c.truncated.ensures)
    c.if-not-mac_matches.false)
    _ _ c.decrypt_text-text.ensures.answer c.decrypt_text-text.ensures.output in
    record { answer = c.ok_or.ensures.value ∙ m.0; output = m.1 }
