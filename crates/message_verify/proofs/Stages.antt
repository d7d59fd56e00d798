-- What the reading leads to, what the stages behind it show where they give something, and what they leave in the caller's buffer, case by case.
use mathlib.Core.Path.{◌≡◌, refl, sym, ap, ◌∙◌}
use mathlib.Core.Bool.{true, false}
use Rattle.std.specs.Prelude.{Option, None, Some, Result, Ok, Err, ok_or}
use Prim.Native.Nat.{ℕ, ◌<◌, ◌≤◌}
use borrow.Author.Tests.{lt-leb, le-leb, leb-true}
use lib.ListN.{length, take}
use Rattle.octets.specs.Bytes.{Bytes}
use Rattle.field_object.specs.declared.Breach.{Breach}
use Rattle.field_read.specs.declared.Objects.{Objects}
use Rattle.field_read.specs.declared.FieldError.{FieldError}
use Rattle.field_read.specs.declared.FieldError.TheVariants.{Malformed as BadField, Missing}
use Rattle.refusal.specs.declared.Refusal.{Refusal}
use Rattle.refusal.specs.declared.Refusal.TheVariants.{Malformed, MissingObject, BufferTooSmall, BadMac, BadPadding}
use Rattle.message_answer.specs.Answer.{Answer, refused, gave, require◌else◌⨾◌, ◌and_then◌, buffer}
use Rattle.message_answer.proofs.Required.{not_refused, require_gave}
use Rattle.message_ciphers.specs.Ciphers.{Ciphers}
use Rattle.message_ciphers.specs.Aes.{decrypt, aes_ciphers}
use Rattle.message_mac.specs.Same.{same}
use Rattle.message_mac.proofs.SameBytes.{same_eq, same_self}
use Rattle.message_verify.specs.Decryption.{unpadded}
use Rattle.message_verify.specs.Reading.{objects_of, text_of}
use Rattle.message_verify.specs.VerifiedText.{Received, verified, verified_text}

-- ---- the reading

pub objects_gave : (read : Result Objects FieldError) (o : Objects) → objects_of read ≡ gave o → read ≡ Ok o
unfolding objects_of
objects_gave (Ok p) o e = let q : p ≡ o = cc in ap Ok q
objects_gave (Err (BadField b)) o e = not_refused e
objects_gave (Err (Missing tag end)) o e = not_refused e

module _ {A : Type 0} (read : Result Objects FieldError) (more : Objects → Answer A) where
  after : Result Objects FieldError → Answer A
  after r = objects_of r and_then more

  pub when_read : (o : Objects) → read ≡ Ok o → (objects_of read and_then more) ≡ more o
  unfolding objects_of ◌and_then◌ after
  when_read o e = ap after e

  pub when_malformed : (b : Breach) → read ≡ Err (BadField b) → (objects_of read and_then more) ≡ refused Malformed
  unfolding objects_of ◌and_then◌ after
  when_malformed b e = ap after e

  pub when_missing : (tag end : ℕ) → read ≡ Err (Missing tag end) → (objects_of read and_then more) ≡ refused MissingObject
  unfolding objects_of ◌and_then◌ after
  when_missing tag end e = ap after e

-- ---- room, MAC and text that gave something

text_gave : (t : Option Bytes) (d : Bytes) → text_of t ≡ gave d → t ≡ Some d
unfolding text_of
text_gave (Some x) d e = let q : x ≡ d = cc in ap Some q
text_gave None d e = not_refused e

-- room for the data, a right MAC, and right padding
pub record Passed (C : Ciphers) (key counter full : Bytes) (r : Received) (room : ℕ) (d : Bytes) : Type 0 where
  pub fits : length r.ciphertext ≤ room
  pub right : r.mac ≡ take 8 full
  pub text : C.decrypt key counter r.ciphertext ≡ Some d

module _ (C : Ciphers) (key counter full : Bytes) (r : Received) (room : ℕ) (d : Bytes) where
  pub verified_gave : verified_text C key counter full r room ≡ gave d → Passed C key counter full r room d
  unfolding verified_text
  verified_gave e =
      let fits = require_gave _ _ _ d e in
      let right = require_gave _ _ _ d fits.1 in
      record { fits = leb-true _ _ fits.0; right = same_eq r.mac (take 8 full) right.0; text = text_gave _ d right.1 }

  pub gave_verified : Passed C key counter full r room d → verified_text C key counter full r room ≡ gave d
  unfolding verified_text require◌else◌⨾◌ text_of
  gave_verified p = rw (le-leb (length r.ciphertext) room p.fits, p.right, same_self (take 8 full), p.text)

-- ---- what the stages answer and leave

-- an answer, and the buffer behind it
abbrev pub Ends : Bytes → Answer Bytes → Result ℕ Refusal → Bytes → Type 0
Ends held t r out = (r ≡ verified t) × (out ≡ buffer (λ (d : Bytes). d) held t)

module _ (key counter full : Bytes) (r : Received) (held : Bytes) where
  abbrev t : Answer Bytes
  t = verified_text aes_ciphers key counter full r (length held)

  abbrev text : Option Bytes
  text = decrypt key counter r.ciphertext

  pub no_room : length held < length r.ciphertext → Ends held t (Err (BufferTooSmall (length r.ciphertext))) held
  unfolding verified_text require◌else◌⨾◌ buffer
  no_room h = rw (lt-leb (length r.ciphertext) (length held) h) (refl, refl)

  module _ (room : length r.ciphertext ≤ length held) where
    pub wrong_mac : same r.mac (take 8 full) ≡ false → Ends held t (Err BadMac) held
    unfolding verified_text require◌else◌⨾◌ buffer
    wrong_mac e = rw (le-leb (length r.ciphertext) (length held) room, e) (refl, refl)

    module _ (right : same r.mac (take 8 full) ≡ true) (found : Option ℕ) (out : Bytes)
        (answer : found ≡ unpadded text) (output : out ≡ buffer (λ (d : Bytes). d) held (text_of text)) where
      is_text : t ≡ text_of text
      unfolding verified_text require◌else◌⨾◌ aes_ciphers
      is_text = rw (le-leb (length r.ciphertext) (length held) room, right) refl

      ends : (x : Option Bytes) → ok_or (unpadded x) BadPadding ≡ verified (text_of x)
      unfolding text_of
      ends (Some d) = refl
      ends None = refl

      pub text_verified : Ends held t (ok_or found BadPadding) out
      text_verified = (
        ap (λ (x : Option ℕ). ok_or x BadPadding) answer ∙ ends text ∙ sym (ap verified is_text),
        output ∙ ap (buffer (λ (d : Bytes). d) held) (sym is_text),
      )
