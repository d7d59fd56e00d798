-- Every round key of an expanded key is four columns of four bytes, whatever the key.
use mathlib.Core.Path.{◌≡◌, refl, sym, ◌∙◌, subst}
use mathlib.Core.Bool.{Bool, true, false, ◌&&◌}
use mathlib.Core.List.{List, [], ◌∷◌, ◌++◌}
use Prim.Native.Nat.{ℕ, zero, suc, ◌+◌, ◌*◌, ◌-◌, ◌/◌, ◌%◌, ◌<◌, ◌≤◌}
use native.Mathlib.Nat.{zero-lt-suc, not-suc-le-zero}
use native.Mathlib.Omega.{arith}
use lib.Dec.{eqb, ltb, lit<}
use lib.ListN.{get_or, length, replicate, get_or-append, get_or-eq_default}
use lib.Seq.{get_or_at}
use Rattle.octets.specs.Bytes.{Bytes, IsBytes, ◌⊕◌, zeros}
use Rattle.std.specs.Prelude.{if◌then◌else◌}
use Rattle.octets.proofs.ByteStrings.{by_test, byte_at}
use Rattle.octets.proofs.Tabulate.{get_d_tabulate}
use Rattle.octets.proofs.Xor.{xor_byte}
use Rattle.aes_sbox.specs.SBox.{s_box}
use Rattle.aes_sbox.proofs.GivesBytes.{s_box_byte}
use Rattle.aes_state.specs.State.{Word, word, add_word, IsState}
use Rattle.aes_sub_bytes.specs.SubBytes.{sub_word}
use Rattle.aes_gf.proofs.XTimes.{x_times_byte}
use Rattle.aes_key_expansion.specs.KeySizes.{nk, nr}
use Rattle.aes_key_expansion.specs.RoundKey.{round_key}
use Rattle.aes_key_expansion.specs.KeyExpansion.{rot_word, x_power, rcon, temp, key_word, next_word, words, key_expansion, schedule}
use Rattle.aes_key_expansion.specs.declared.KeySize.{KeySize}
use Rattle.aes_key_expansion.proofs.Schedule.{length_words}

record IsWord (a : Word) : Type 0 where
  size : length a ≡ 4
  bytes : IsBytes a

word_is : (f : ℕ → ℕ) → ((r : ℕ) → f r < 256) → IsWord (word f)
word_is f h =
    record { size = refl; bytes = λ r k. subst (λ (b : ℕ). b < 256) (sym (get_d_tabulate 0 4 f r k)) (h r) }

add_is : (a b : Word) → IsBytes a → IsBytes b → IsWord (add_word a b)
unfolding add_word
add_is a b h g =
    word_is (λ r. get_or a r 0 ⊕ get_or b r 0) (λ r. xor_byte (get_or a r 0) (get_or b r 0) (byte_at a h r) (byte_at b g r))

sub_is : (a : Word) → IsWord (sub_word a)
sub_is a = word_is (λ r. s_box (get_or a r 0)) (λ r. s_box_byte (get_or a r 0))

power_byte : (j : ℕ) → x_power j < 256
unfolding x_power
power_byte zero = lit< tt
power_byte (suc j) = x_times_byte (x_power j)

rcon_is : (j : ℕ) → IsBytes (rcon j)
rcon_is j zero k = power_byte (j - 1)
rcon_is j (suc zero) k = zero-lt-suc 255
rcon_is j (suc (suc zero)) k = zero-lt-suc 255
rcon_is j (suc (suc (suc zero))) k = zero-lt-suc 255
rcon_is j (suc (suc (suc (suc i)))) k = let z : ⊥ = omega arith in absurd z

chosen : (P : Word → Type 0) (t : Bool) (a b : Word) → P a → P b → P (if t then a else b)
chosen P true a b p q = p
chosen P false a b p q = q

temp_is : (n i : ℕ) (t : Word) → IsBytes t → IsBytes (temp n i t)
temp_is n i t h =
    chosen IsBytes (eqb (i % n) 0) (add_word (sub_word (rot_word t)) (rcon (i / n)))
    (if ltb 6 n && eqb (i % n) 4 then sub_word t else t)
    (add_is (sub_word (rot_word t)) (rcon (i / n)) (sub_is (rot_word t)).bytes (rcon_is (i / n))).bytes
    (chosen IsBytes (ltb 6 n && eqb (i % n) 4) (sub_word t) t (sub_is t).bytes h)

key_is : (key : Bytes) → IsBytes key → (i : ℕ) → IsWord (key_word key i)
unfolding key_word
key_is key h i = word_is (λ j. get_or key (4 * i + j) 0) (λ j. byte_at key h (4 * i + j))

next_is : (n : ℕ) (key : Bytes) (w : List Word) (i : ℕ) → IsBytes key → ((j : ℕ) → IsBytes (get_or w j []))
    → IsWord (next_word n key w i)
next_is n key w i h g =
    chosen IsWord (ltb i n) (key_word key i) (add_word (get_or w (i - n) []) (temp n i (get_or w (i - 1) []))) (key_is key h i)
    (add_is (get_or w (i - n) []) (temp n i (get_or w (i - 1) [])) (g (i - n)) (temp_is n i (get_or w (i - 1) []) (g (i - 1))))

-- ---- all words

module _ (n : ℕ) (key : Bytes) (h : IsBytes key) where
  within : (w : List Word) (i : ℕ) → length w ≡ i → ((j : ℕ) → j < i → IsWord (get_or w j [])) → (j : ℕ) → IsBytes (get_or w j [])
  within w i e g j =
      by_test j i (λ (k : j < i). (g j k).bytes)
      (λ (k : i ≤ j). subst IsBytes (sym (get_or-eq_default w [] (omega (arith, e)))) (λ r z. absurd (not-suc-le-zero z)))

  words_are : (i j : ℕ) → j < i → IsWord (get_or (words n key i) j [])
  unfolding words
  words_are zero j k = absurd (not-suc-le-zero k)
  words_are (suc i) j k =
      let p : List Word = words n key i in
      let e : length p ≡ i = length_words n key i in
      let v : Word = next_word n key p i in
      by_test j i
      (λ (g : j < i). subst IsWord (sym (get_or-append p (v ∷ []) [] j (omega (arith, e)))) (words_are i j g))
      (λ (g : i ≤ j).
      let q : length p ≡ j = omega (arith, e) in
      subst IsWord (sym (get_or_at p v [] [] j q)) (next_is n key p i h (within p i e (words_are i))))

pub round_key_is : (size : KeySize) (key : Bytes) → IsBytes key → (round : ℕ) → round ≤ nr size
    → IsState (round_key (schedule size key) round)
unfolding schedule key_expansion
round_key_is size key h round k =
    let n : ℕ = nk size in
    let p : List Word = words n key (4 * nr size + 4) in
    let q : List Word = replicate (60 - (4 * nr size + 4)) (zeros 4) in
    let e : length p ≡ 4 * nr size + 4 = length_words n key (4 * nr size + 4) in
    let at_key : (c : ℕ) → c < 4 → IsWord (get_or (round_key (p ++ q) round) c []) =
    λ c hc.
    subst IsWord
    (sym
    (get_d_tabulate [] 4 (λ (i : ℕ). get_or (p ++ q) (4 * round + i) []) c hc
    ∙ get_or-append p q [] (4 * round + c) (omega (arith, e))))
    (words_are n key h (4 * nr size + 4) (4 * round + c) (omega arith)) in
    record {
      columns = refl;
      rows = λ c hc. (at_key c hc).size;
      bytes = λ r c hr hc. (at_key c hc).bytes r (omega (arith, (at_key c hc).size));
    }
