-- KeyExpansion, word by word: the round constants' rule, the cases of a word, and one more word in the array.
use mathlib.Core.Path.{◌≡◌, refl, sym, ap, ap₂, ◌∙◌}
use mathlib.Core.Bool.{Bool}
use mathlib.Core.List.{List, [], ◌∷◌, ◌++◌, append_assoc}
use Prim.Native.Nat.{ℕ, zero, suc, ◌+◌, ◌*◌, ◌-◌, ◌/◌, ◌%◌, ◌<◌, ◌≤◌}
use native.Mathlib.Nat.{le-div_iff_mul-le, div-lt_iff_lt-mul}
use native.Mathlib.Numerals.{add-one}
use native.Mathlib.Omega.{arith}
use borrow.Author.Tests.{eq-eqb, ne_eqb, lt-ltb, le-ltb}
use lib.Dec.{eqb, eqb→eq}
use lib.ListN.{get_or, length, set, replicate, length-append, get_or-append}
use lib.Seq.{set_at}
use Rattle.octets.specs.Bytes.{Bytes, zeros}
use Rattle.octets.proofs.ByteStrings.{by_test}
use Rattle.octets.proofs.Table.{at}
use Rattle.aes_gf.specs.Field.{x_times}
use Rattle.aes_state.specs.State.{Word, add_word}
use Rattle.aes_sub_bytes.specs.SubBytes.{sub_word}
use Rattle.aes_key_expansion.specs.KeyExpansion.{rot_word, x_power, rcon, temp, key_word, next_word, words}

-- ---- the round constants

pub quotient_least : {n i : ℕ} → 4 ≤ n → n ≤ i → 1 ≤ i / n
quotient_least {n} {i} h g = (le-div_iff_mul-le {k = n} {x = 1} {y = i} (omega arith)).1 (omega arith)

pub quotient_most : {n i : ℕ} → 4 ≤ n → i < 4 * n + 28 → i / n < 11
quotient_most {n} {i} h g = (div-lt_iff_lt-mul {k = n} {x = i} {y = 11} (omega arith)).1 (omega arith)

abbrev table : Bytes
table = 0x01 ∷ 0x02 ∷ 0x04 ∷ 0x08 ∷ 0x10 ∷ 0x20 ∷ 0x40 ∷ 0x80 ∷ 0x1b ∷ 0x36 ∷ []

follows : ℕ → ℕ → Bool
follows j x = eqb x (x_power j)

pub rcon_rule : (j : ℕ) → j < 10 → get_or table j 0 ≡ x_power j
unfolding follows x_power x_times
rcon_rule j h = eqb→eq (get_or table j 0) (x_power j) (at follows table tt j h)

-- ---- the cases of a word

module _ (n i : ℕ) (t : Word) where
  pub temp_first : i % n ≡ 0 → add_word (sub_word (rot_word t)) (rcon (i / n)) ≡ temp n i t
  temp_first h = simp (eq-eqb (i % n) 0 h)

  pub temp_fourth : (i % n ≡ 0 → ⊥) → 6 < n → i % n ≡ 4 → sub_word t ≡ temp n i t
  temp_fourth h g e = simp (ne_eqb (i % n) 0 h, lt-ltb 6 n g, eq-eqb (i % n) 4 e)

  pub temp_other : (i % n ≡ 0 → ⊥) → 6 < n → (i % n ≡ 4 → ⊥) → t ≡ temp n i t
  temp_other h g e = simp (ne_eqb (i % n) 0 h, lt-ltb 6 n g, ne_eqb (i % n) 4 e)

  pub temp_short : (i % n ≡ 0 → ⊥) → n ≤ 6 → t ≡ temp n i t
  temp_short h g = simp (ne_eqb (i % n) 0 h, le-ltb 6 n g)

module _ (n : ℕ) (key : Bytes) (w : List Word) (i : ℕ) where
  pub next_key : i < n → key_word key i ≡ next_word n key w i
  next_key h = simp (lt-ltb i n h)

  pub next_sum : n ≤ i → add_word (get_or w (i - n) []) (temp n i (get_or w (i - 1) [])) ≡ next_word n key w i
  next_sum h = rw (le-ltb i n h)

-- ---- one more word

pub length_words : (n : ℕ) (key : Bytes) (i : ℕ) → length (words n key i) ≡ i
unfolding words
length_words n key zero = refl
length_words n key (suc i) =
    length-append (words n key i) (next_word n key (words n key i) i ∷ []) ∙ ap (λ (k : ℕ). k + 1) (length_words n key i)
    ∙ add-one i

-- word i is made of the words before it alone
next_prefix : (n : ℕ) (key : Bytes) (p q : List Word) (i : ℕ) → 4 ≤ n → length p ≡ i
    → next_word n key (p ++ q) i ≡ next_word n key p i
next_prefix n key p q i h e =
    by_test i n (λ (g : i < n). sym (next_key n key (p ++ q) i g) ∙ next_key n key p i g)
    (λ (g : n ≤ i).
    sym (next_sum n key (p ++ q) i g)
    ∙ ap₂ (λ (a b : Word). add_word a (temp n i b)) (get_or-append p q [] (i - n) (omega (arith, e)))
    (get_or-append p q [] (i - 1) (omega (arith, e)))
    ∙ next_sum n key p i g)

-- the array after i words
unfoldable pub filled : ℕ → Bytes → ℕ → List Word
filled n key i = words n key i ++ replicate (60 - i) (zeros 4)

pub filled_none : (n : ℕ) (key : Bytes) → replicate 60 (zeros 4) ≡ filled n key 0
unfolding filled words
filled_none n key = refl

pub filled_more : (n : ℕ) (key : Bytes) (i : ℕ) {w : List Word} {v : Word} → 4 ≤ n → i < 60
    → w ≡ filled n key i → v ≡ next_word n key w i → set w i v ≡ filled n key (i + 1)
unfolding filled words
filled_more n key i {w} {v} h g e q =
    let p : List Word = words n key i in
    let rest : List Word = replicate (60 - (i + 1)) (zeros 4) in
    let split : 60 - i ≡ suc (60 - (i + 1)) = omega arith in
    let e' : w ≡ p ++ (zeros 4 ∷ rest) = rw split at e in
    ap₂ (λ (l : List Word) (x : Word). set l i x) e'
    (q ∙ ap (λ (l : List Word). next_word n key l i) e' ∙ next_prefix n key p (zeros 4 ∷ rest) i h (length_words n key i))
    ∙ set_at p (zeros 4) rest (next_word n key p i) i (length_words n key i)
    ∙ sym (append_assoc p (next_word n key p i ∷ []) rest)
    ∙ ap (λ (k : ℕ). words n key k ++ rest) (sym (add-one i))
