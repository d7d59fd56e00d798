-- A schedule reads the first 4 * Nk bytes of the key, and no others.
use mathlib.Core.Path.{◌≡◌, refl, ap, ap₂, ◌∙◌}
use mathlib.Core.Bool.{Bool, true, false}
use mathlib.Core.List.{List, [], ◌∷◌, ◌++◌}
use Prim.Native.Nat.{ℕ, zero, suc, ◌+◌, ◌*◌, ◌-◌, ◌<◌}
use native.Mathlib.Omega.{arith}
use borrow.Author.Tests.{ltb-true}
use lib.Dec.{ltb}
use lib.ListN.{get_or, take, replicate}
use lib.Seq.{get_or-take}
use Rattle.octets.specs.Bytes.{Bytes, zeros}
use Rattle.std.specs.Prelude.{if◌then◌else◌}
use Rattle.octets.proofs.Tabulate.{tabulate_ext}
use Rattle.aes_state.specs.State.{Word, add_word}
use Rattle.aes_key_expansion.specs.KeySizes.{nk, nr}
use Rattle.aes_key_expansion.specs.declared.KeySize.{KeySize}
use Rattle.aes_key_expansion.specs.KeyExpansion.{temp, key_word, next_word, words, key_expansion, schedule}

module _ (n : ℕ) (key : Bytes) where
  same_word : (i : ℕ) → i < n → key_word (take (4 * n) key) i ≡ key_word key i
  unfolding key_word
  same_word i h = tabulate_ext 4 (λ j k. get_or-take (4 * n) key (4 * i + j) 0 (omega arith))

  same_next : (w : List Word) (i : ℕ) → next_word n (take (4 * n) key) w i ≡ next_word n key w i
  same_next w i = go (ltb i n) refl
    where
      rest : Word
      rest = add_word (get_or w (i - n) []) (temp n i (get_or w (i - 1) []))

      go : (t : Bool) → ltb i n ≡ t → (if t then key_word (take (4 * n) key) i else rest) ≡ (if t then key_word key i else rest)
      go true e = same_word i (ltb-true i n e)
      go false e = refl

  same_words : (i : ℕ) → words n (take (4 * n) key) i ≡ words n key i
  unfolding words
  same_words zero = refl
  same_words (suc i) =
      ap₂ (λ (w : List Word) (x : Word). w ++ (x ∷ [])) (same_words i) (same_next (words n (take (4 * n) key) i) i ∙ ap (λ (w : List Word). next_word n key w i) (same_words i))

pub schedule_start : (size : KeySize) (key : Bytes) → schedule size (take (4 * nk size) key) ≡ schedule size key
unfolding schedule key_expansion
schedule_start size key =
    ap (λ (w : List Word). w ++ replicate (60 - (4 * nr size + 4)) (zeros 4)) (same_words (nk size) key (4 * nr size + 4))
