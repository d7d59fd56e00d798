-- `put_objects` meets its contract: the encrypted data fits the crate's memory, and its objects the caller's buffer.
use borrow.Author.Rules.{rules}
use mathlib.Core.Path.{◌≡◌, sym, ap, ◌∙◌}
use native.Mathlib.Nat.{zero-add}
use native.Mathlib.Omega.{arith}
use lib.ListN.{length}
use Rattle.octets.proofs.Writing.{wrote_start}
use Rattle.message_ciphers.specs.Aes.{aes_ciphers}
use Rattle.message_protocol.specs.Response.{response_ciphertext}
use Rattle.message_encrypt.proofs.Room.{ciphertext_fits, length_written, response_room}
use Rattle.message_wrap_response.proofs.objects.put_objects.Goals as goal

pub encrypt_text-n-requires : goal.encrypt_text-n-requires
encrypt_text-n-requires c = ciphertext_fits (length c.args.«data».now) 1024 (omega (arith, c.requires.short))

pub slice_bounds-text-end : goal.slice_bounds-text-end
slice_bounds-text-end c =
    let a = c.args in
    let w = c.encrypt_text-n.ensures in
    let key : length a.session.sk_enc ≡ 32 = search (rules, c.well_formed) in
    let l = length_written a.session.suite a.session.sk_enc _ a.«data».now key w in
    let fit = ciphertext_fits (length a.«data».now) 1024 (omega (arith, c.requires.short)) in
    omega (arith, w.end, l, fit, c.encrypt_text-n.auto)

pub slice_bounds-put_response_objects-end : goal.slice_bounds-put_response_objects-end
slice_bounds-put_response_objects-end c =
    let w = c.encrypt_text-n.ensures in w.end ∙ zero-add _ ∙ sym (ap length (wrote_start w))

pub put_response_objects-requires : goal.put_response_objects-requires
put_response_objects-requires c =
    let a = c.args in
    let w = c.encrypt_text-n.ensures in
    let key : length a.session.sk_enc ≡ 32 = search (rules, c.well_formed) in
    let l = length_written a.session.suite a.session.sk_enc _ a.«data».now key w in
    let fit = ciphertext_fits (length a.«data».now) 1024 (omega (arith, c.requires.short)) in
    rw (wrote_start w) (omega (arith, l, fit), omega (arith, response_room a.session.suite a.session.sk_enc _ a.«data».now key w a.status.sw1 a.status.sw2, c.requires.fits))

pub returns : goal.returns
unfolding response_ciphertext aes_ciphers
returns c =
    let a = c.args in
    let w = c.encrypt_text-n.ensures in
    let key : length a.session.sk_enc ≡ 32 = search (rules, c.well_formed) in
    let p = rw (wrote_start w) at c.put_response_objects.ensures in
    record { objects = rw c.response_counter-counter.ensures at p; room = omega (arith, p.end, response_room a.session.suite a.session.sk_enc _ a.«data».now key w a.status.sw1 a.status.sw2, c.requires.fits) }
