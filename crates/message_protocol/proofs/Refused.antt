-- Demand 1, proved: a refusal's number is in its call's order, and it leaves the buffer and, but for 9 and 10, the session.
use mathlib.Core.Path.{◌≡◌, refl, ap, ◌∙◌}
use mathlib.Core.List.{List, [], ◌∷◌, Memᴰ}
use Prim.Native.Nat.{ℕ}
use Rattle.octets.specs.Bytes.{Bytes}
use Rattle.std.specs.Prelude.{Result, Ok, Err, Option, Some, None}
use Rattle.field_read.specs.declared.FieldError.{FieldError}
use Rattle.field_read.specs.declared.FieldError.TheVariants.{Malformed as BadField, Missing}
use Rattle.field_read.specs.declared.Objects.{Objects}
use Rattle.refusal.specs.declared.Refusal.{Refusal}
use Rattle.refusal.specs.declared.Refusal.TheVariants.{Malformed, MissingObject, BadPadding}
use Rattle.session.specs.Session.{closed}
use Rattle.session.specs.declared.Session.{Session}
use Rattle.message_ciphers.specs.Ciphers.{Ciphers}
use Rattle.message_answer.specs.Answer.{refused, after_refusal, buffer}
use Rattle.message_answer.proofs.Required.{not_given_lem}
use Rattle.message_answer.proofs.Among.{Among, refused_among, gave_among, require_among, then_among, concluded_among, first, later}
use Rattle.message_answer.proofs.Refusals.{session_closes, session_stays, session_left}
use Rattle.message_verify.specs.Reading.{objects_of, text_of}
use Rattle.message_verify.specs.VerifiedText.{Received, verified_text}
use Rattle.message_protocol.specs.Command.{wrap_command_checks, unwrap_command_checks, host_wraps, open_command, card_unwraps}
use Rattle.message_protocol.specs.Response.{wrap_response_checks, unwrap_response_checks, card_wraps, open_response, host_unwraps}
use Rattle.message_protocol.specs.Transcript.{Call, wrap_command, unwrap_command, wrap_response, unwrap_response, close, does}
use Rattle.message_protocol.specs.RefusalKeeps.{order, writes, IsClosed, RefusalKeeps}

-- ---- the refusals of the stages that read

pub objects_among : (ns : List ℕ) (read : Result Objects FieldError) → Memᴰ 7 ns → Memᴰ 8 ns → Among ns (objects_of read)
unfolding objects_of
objects_among ns (Ok o) a b = gave_among ns o
objects_among ns (Err (BadField x)) a b = refused_among Objects ns Malformed a
objects_among ns (Err (Missing tag end)) a b = refused_among Objects ns MissingObject b

text_among : (ns : List ℕ) (t : Option Bytes) → Memᴰ 10 ns → Among ns (text_of t)
unfolding text_of
text_among ns (Some d) a = gave_among ns d
text_among ns None a = refused_among Bytes ns BadPadding a

pub verified_among : (ns : List ℕ) (C : Ciphers) (key counter full : Bytes) (r : Received) (room : ℕ)
    → Memᴰ 6 ns → Memᴰ 9 ns → Memᴰ 10 ns → Among ns (verified_text C key counter full r room)
unfolding verified_text
verified_among ns C key counter full r room a b c = require_among ns _ _ _ a (require_among ns _ _ _ b (text_among ns _ c))

-- ---- each call

module _ (C : Ciphers) (s : Session) where
  in_order : (c : Call) → Among (order c) (does C s c).answer
  unfolding does host_wraps open_command card_unwraps card_wraps open_response host_unwraps wrap_command_checks unwrap_command_checks wrap_response_checks unwrap_response_checks
  in_order (wrap_command side m room) =
      let ns : List ℕ = 1 ∷ 2 ∷ 3 ∷ 4 ∷ 5 ∷ 6 ∷ [] in
      concluded_among ns s _ (then_among ns _ _
      (require_among ns _ _ _ first
      (require_among ns _ _ _ (later first)
      (require_among ns _ _ _ (later (later first))
      (require_among ns _ _ _ (later (later (later first)))
      (require_among ns _ _ _ (later (later (later (later first))))
      (require_among ns _ _ _ (later (later (later (later (later first)))))
      (gave_among ns tt)))))))
      (λ u. gave_among ns _))
  in_order (unwrap_command side header field room) =
      let ns : List ℕ = 1 ∷ 2 ∷ 3 ∷ 4 ∷ 5 ∷ 7 ∷ 8 ∷ 6 ∷ 9 ∷ 10 ∷ [] in
      concluded_among ns s _ (then_among ns _ _
      (require_among ns _ _ _ first
      (require_among ns _ _ _ (later first)
      (require_among ns _ _ _ (later (later first))
      (require_among ns _ _ _ (later (later (later first)))
      (require_among ns _ _ _ (later (later (later (later first))))
      (gave_among ns tt))))))
      (λ u. then_among ns _ _ (objects_among ns _ (later (later (later (later (later first))))) (later (later (later (later (later (later first)))))))
      (λ o. then_among ns _ _ (verified_among ns C _ _ _ _ room (later (later (later (later (later (later (later first)))))))
      (later (later (later (later (later (later (later (later first)))))))) (later (later (later (later (later (later (later (later (later first))))))))))
      (λ d. gave_among ns _))))
  in_order (wrap_response side m room) =
      let ns : List ℕ = 1 ∷ 2 ∷ 3 ∷ 4 ∷ 6 ∷ [] in
      concluded_among ns s _ (then_among ns _ _
      (require_among ns _ _ _ first
      (require_among ns _ _ _ (later first)
      (require_among ns _ _ _ (later (later first))
      (require_among ns _ _ _ (later (later (later first)))
      (require_among ns _ _ _ (later (later (later (later first))))
      (gave_among ns tt))))))
      (λ u. gave_among ns _))
  in_order (unwrap_response side sw field room) =
      let ns : List ℕ = 1 ∷ 2 ∷ 13 ∷ 4 ∷ 7 ∷ 8 ∷ 6 ∷ 9 ∷ 10 ∷ [] in
      concluded_among ns s _ (then_among ns _ _
      (require_among ns _ _ _ first
      (require_among ns _ _ _ (later first)
      (require_among ns _ _ _ (later (later first))
      (require_among ns _ _ _ (later (later (later first)))
      (gave_among ns tt)))))
      (λ u. then_among ns _ _ (objects_among ns _ (later (later (later (later first)))) (later (later (later (later (later first))))))
      (λ o. then_among ns _ _ (verified_among ns C _ _ _ _ room (later (later (later (later (later (later first))))))
      (later (later (later (later (later (later (later first))))))) (later (later (later (later (later (later (later (later first)))))))))
      (λ d. gave_among ns _))))
  in_order (close side) = gave_among [] tt

  -- ---- what is left

  next_is : (c : Call) (r : Refusal) → (does C s c).answer ≡ refused r → (does C s c).next ≡ after_refusal s r
  unfolding does host_wraps open_command card_unwraps card_wraps open_response host_unwraps
  next_is (wrap_command side m room) r e = session_left s _ _ r e
  next_is (unwrap_command side header field room) r e = session_left s _ _ r e
  next_is (wrap_response side m room) r e = session_left s _ _ r e
  next_is (unwrap_response side sw field room) r e = session_left s _ _ r e
  next_is (close side) r e = not_given_lem e

  is_closed : (t : Session) → t ≡ closed s → IsClosed s t
  is_closed t e =
      rw e (record {
        side_stays = refl;
        suite_stays = refl;
        phase_is = refl;
        count_is = refl;
        enc_is = refl;
        mac_is = refl;
        rmac_is = refl;
        command_mcv_is = refl;
        response_mcv_is = refl;
      })

pub refusal_keeps : (C : Ciphers) → RefusalKeeps C
unfolding buffer
refusal_keeps C s c r held e =
    record {
      in_order = in_order C s c r e;
      output = ap (buffer (writes c) held) e;
      closes = λ f. is_closed C s (does C s c).next (next_is C s c r e ∙ session_closes s r f);
      stays = λ f. next_is C s c r e ∙ session_stays s r f;
    }
