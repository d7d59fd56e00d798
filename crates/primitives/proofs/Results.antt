-- The three ways in which a call ends: no key of that length, lengths refused, done. Each call's proof cites these.
use mathlib.Core.Path.{◌≡◌, refl, sym, ap, ap₂, ◌∙◌}
use mathlib.Core.Bool.{Bool, true, false, ◌&&◌}
use mathlib.Core.List.{List, ◌++◌}
use Prim.Native.Nat.{ℕ, ◌≤◌}
use native.Mathlib.Omega.{arith}
use borrow.Author.Tests.{eqb-true, eq-eqb}
use lib.Dec.{eqb}
use lib.ListN.{length, take}
use lib.Seq.{take_all}
use Rattle.octets.specs.Bytes.{Bytes, zeros}
use Rattle.octets.specs.Write.{over, Wrote}
use Rattle.octets.proofs.Writing.{wrote_all, over_full}
use Rattle.aes.specs.Aes.{ciph}
use Rattle.aes_key_expansion.specs.KeyExpansion.{schedule}
use Rattle.aes_key_expansion.specs.declared.KeySize.{KeySize}
use Rattle.aes_key_expansion.specs.declared.ExpandedKey.{ExpandedKey}
use Rattle.mode_cbc.specs.Whole.{whole, outcome, if_whole}
use Rattle.mode_cbc.specs.declared.PartialBlock.{PartialBlock}
use Rattle.std.specs.Prelude.{Some, None, Result, Ok, Err}
use Rattle.mode_cbc.proofs.Outcomes.{done_whole, done_changed, partial_not_whole, partial_kept}
use Rattle.mode_cmac.specs.Cmac.{cmac}
use Rattle.mode_cmac.specs.Running.{start, absorb, finish}
use Rattle.mode_cmac.specs.declared.Cmac.{Cmac}
use Rattle.mode_cmac.proofs.Theorems.{absorb_append, cmac_aes}
use Rattle.primitives.specs.Calls.{key_size, expanded, block_long, with_key, answer, buffer}

pub key_fits : (n : ℕ) (size : KeySize) → key_size n ≡ Some size → n ≤ 32
unfolding key_size
key_fits n size e = by (eqb n 16) refl (eqb n 32) refl
  where
    by : (s : Bool) → eqb n 16 ≡ s → (t : Bool) → eqb n 32 ≡ t → n ≤ 32
    by true p t q = omega (arith, eqb-true n 16 p)
    by false p true q = omega (arith, eqb-true n 32 q)
    by false p false q =
        let f : key_size n ≡ None = simp (p, q) in
        let z : ◌≡◌ {A = ℕ} 0 1 = cc in
        omega arith

-- ---- a key made ready has its size and its schedule

pub some_key : (key : Bytes) (size : KeySize) (k : ExpandedKey) → key_size (length key) ≡ Some size → k ≡ expanded size key
    → (key_size (length key) ≡ Some k.size) × (k.words ≡ schedule k.size (over (zeros 32) key))
some_key key size k e made =
    let words = ap (λ (x : ExpandedKey). schedule x.size (over (zeros 32) key)) (sym made) in
    (e ∙ ap (λ (x : ExpandedKey). Some x.size) (sym made), ap (λ (x : ExpandedKey). x.words) made ∙ words)

module _ (key : Bytes) (lengths : Bool) (result : KeySize → Bytes → Bytes) (held : Bytes) where
  pub bad_key : key_size (length key) ≡ None → (12 ≡ answer key lengths) × (held ≡ buffer key lengths result held)
  unfolding answer buffer with_key
  bad_key e = (simp e, simp e)

  module _ (size : KeySize) (e : key_size (length key) ≡ Some size) where
    pub malformed : lengths ≡ false → (7 ≡ answer key lengths) × (held ≡ buffer key lengths result held)
    unfolding answer buffer with_key
    malformed f = (simp (e, f), simp (e, f))

    pub done : {out : Bytes} → lengths ≡ true → out ≡ result size (over (zeros 32) key)
        → (0 ≡ answer key lengths) × (out ≡ buffer key lengths result held)
    unfolding answer buffer with_key
    done t r = (simp (e, t), r ∙ simp (e, t))

-- a buffer wholly written
pub replaced : {xs : Bytes} {ys : Bytes} {next : ℕ} {out : Bytes} → Wrote xs 0 ys next out → length xs ≤ length ys → out ≡ ys
replaced {xs} {ys} w h = wrote_all w ∙ over_full xs ys h

-- ---- done with a key of that size, whatever the direction

module _ (key block : Bytes) (size : KeySize) (e : key_size (length key) ≡ Some size) (sized : length block ≡ 16) where
  -- a block, in its own place; `cipher` is CIPH or its inverse
  pub block_done : (cipher : KeySize → List Bytes → Bytes → Bytes) {w : List Bytes} {b made out : Bytes} {next : ℕ}
      → w ≡ schedule size (over (zeros 32) key) → b ≡ take 16 block → made ≡ cipher size w b → length made ≡ 16 → Wrote block 0 made next out
      → (0 ≡ answer key (block_long block)) × (out ≡ buffer key (block_long block) (λ s k. cipher s (schedule s k) block) block)
  block_done cipher ew eb em l wrote =
      done key (block_long block) _ block size e (eq-eqb _ _ sized)
      (replaced wrote (omega arith) ∙ em ∙ ap₂ (cipher size) ew (eb ∙ take_all 16 block (omega arith)))

-- data in CBC; `cbc` is the mode in either direction
module _ (key iv xs : Bytes) (size : KeySize) (e : key_size (length key) ≡ Some size) (sized : length iv ≡ 16)
    (cbc : KeySize → List Bytes → Bytes → Bytes → Bytes) {w : List Bytes} {v out : Bytes} {told : Result (Unit {0}) PartialBlock}
    (ew : w ≡ schedule size (over (zeros 32) key)) (ev : v ≡ take 16 iv) (et : told ≡ outcome xs) (eo : out ≡ if_whole (cbc size w v) xs) where
  abbrev Left : ℕ → Type 0
  Left n =
      (n ≡ answer key (block_long iv && whole xs)) × (out ≡ buffer key (block_long iv && whole xs) (λ s k. cbc s (schedule s k) iv xs) xs)

  pub cbc_done : {u : Unit {0}} → told ≡ Ok u → Left 0
  cbc_done t =
      let o = sym et ∙ t in
      done key (block_long iv && whole xs) _ xs size e (simp (eq-eqb _ _ sized, done_whole xs o))
      (eo ∙ done_changed _ xs o ∙ ap₂ (λ (u : List Bytes) (x : Bytes). cbc size u x xs) ew (ev ∙ take_all 16 iv (omega arith)))

  pub cbc_partial : {b : PartialBlock} → told ≡ Err b → Left 7
  cbc_partial t =
      let o = sym et ∙ t in
      let m = malformed key (block_long iv && whole xs) (λ s k. cbc s (schedule s k) iv xs) xs size e (simp (eq-eqb _ _ sized, partial_not_whole xs o)) in
      (m.0, eo ∙ partial_kept _ xs o ∙ m.1)

-- a message absorbed in two parts and finished
pub two_parts : (size : KeySize) (w : List Bytes) (head rest : Bytes) {s₀ s₁ s₂ : Cmac} {mac : Bytes}
    → s₀ ≡ start → s₁ ≡ absorb (ciph size w) s₀ head → s₂ ≡ absorb (ciph size w) s₁ rest → mac ≡ finish (ciph size w) s₂
    → mac ≡ cmac (ciph size w) (head ++ rest)
two_parts size w head rest e₀ e₁ e₂ e =
    let c : Bytes → Bytes = ciph size w in
    e
    ∙ ap (finish c)
    (e₂ ∙ ap (λ (s : Cmac). absorb c s rest) (e₁ ∙ ap (λ (s : Cmac). absorb c s head) e₀) ∙ sym (absorb_append c start head rest))
    ∙ cmac_aes size w (head ++ rest)
