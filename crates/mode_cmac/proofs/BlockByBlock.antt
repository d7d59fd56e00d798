-- Absorbing parts of a message: a string in two parts, up to a block into an empty one, and a whole block at once.
use mathlib.Core.Path.{◌≡◌, refl, sym, ap, ap₂, ◌∙◌}
use mathlib.Core.Bool.{Bool, true, false}
use mathlib.Core.List.{[], ◌∷◌, ◌++◌, append_assoc, append-nil}
use Prim.Native.Nat.{ℕ, ◌+◌, ◌%◌, ◌≤◌, ◌<◌}
use native.Mathlib.Nat.{add-zero, zero-add}
use native.Mathlib.Omega.{arith}
use borrow.Author.Tests.{leb-false, lt-leb}
use lib.Dec.{leb}
use lib.ListN.{length, drop, set, length-append, drop_of_length-le}
use lib.Seq.{set_at, get_or_at}
use Rattle.octets.specs.Bytes.{Bytes, ◌⊕◌, ◌xor◌}
use Rattle.octets.proofs.XorBytes.{xor_nil}
use Rattle.mode_cmac.specs.declared.Cmac.{Cmac}
use Rattle.mode_cmac.specs.Subkeys.{Cipher}
use Rattle.mode_cmac.specs.Running.{flush, add, absorb}

-- the state with chain x and n bytes in the current block
abbrev pub state : Bytes → ℕ → Cmac
state x n = record { chain = x; len = n }

module _ (ciph : Cipher) where
  -- however a message is cut, its parts are absorbed as the whole is
  pub absorb_append : (s : Cmac) (a b : Bytes) → absorb ciph s (a ++ b) ≡ absorb ciph (absorb ciph s a) b
  unfolding absorb
  absorb_append s [] b = refl
  absorb_append s (x ∷ a) b = absorb_append (add (flush ciph s) x) a b

  flush_partial : (x : Bytes) (n : ℕ) → n < 16 → flush ciph (state x n) ≡ state x n
  unfolding flush
  flush_partial x n h = simp (lt-leb 16 n h)

  add_byte : (p : Bytes) (y : ℕ) (ys : Bytes) (n b : ℕ) → length p ≡ n
      → add (state (p ++ y ∷ ys) n) b ≡ state (p ++ (y ⊕ b) ∷ ys) (n + 1)
  unfolding add
  add_byte p y ys n b h =
      ap (λ (l : Bytes). state l (n + 1))
      (ap (λ (k : ℕ). set (p ++ y ∷ ys) n (k ⊕ b)) (get_or_at p y ys 0 n h) ∙ set_at p y ys (y ⊕ b) n h)

  -- bytes b into a block whose first n bytes have made p of the chain, and whose others are to be added to x
  absorb_from : (b p x : Bytes) (n : ℕ) → length p ≡ n → length b ≤ length x → n + length x ≤ 16
      → absorb ciph (state (p ++ x) n) b ≡ state (p ++ ((x xor b) ++ drop (length b) x)) (n + length b)
  unfolding absorb
  absorb_from [] p x n h k l =
      ap₂ state (ap (λ (t : Bytes). p ++ (t ++ x)) (sym (xor_nil x))) (sym (add-zero n))
  absorb_from (y ∷ b) p [] n h k l = let z : ⊥ = omega arith in absurd z
  absorb_from (y ∷ b) p (z ∷ x) n h k l =
      let one : Bytes = (z ⊕ y) ∷ [] in
      ap (λ (s : Cmac). absorb ciph (add s y) b) (flush_partial (p ++ z ∷ x) n (omega arith))
      ∙ ap (λ (s : Cmac). absorb ciph s b)
      (add_byte p z x n y h ∙ ap (λ (t : Bytes). state t (n + 1)) (sym (append_assoc p one x)))
      ∙ absorb_from b (p ++ one) x (n + 1) (simp length-append (omega arith)) (omega arith) (omega arith)
      ∙ ap₂ state (append_assoc p one ((x xor b) ++ drop (length b) x)) (omega arith)

  -- up to a block into an empty one
  pub absorb_part : (x b : Bytes) → length x ≡ 16 → length b ≤ 16
      → absorb ciph (state x 0) b ≡ state ((x xor b) ++ drop (length b) x) (length b)
  absorb_part x b h k =
      absorb_from b [] x 0 refl (omega arith) (omega arith) ∙ ap (state ((x xor b) ++ drop (length b) x)) (zero-add (length b))

  -- a whole block at once, and what follows it
  pub absorb_block : (x b rest : Bytes) → length x ≡ 16 → length b ≡ 16
      → absorb ciph (state x 0) (b ++ rest) ≡ absorb ciph (state (x xor b) 16) rest
  absorb_block x b rest h k =
      absorb_append (state x 0) b rest
      ∙ ap (λ (s : Cmac). absorb ciph s rest)
      (absorb_part x b h (omega arith)
      ∙ ap₂ state (ap (λ (t : Bytes). (x xor b) ++ t) (drop_of_length-le x {i = length b} (omega arith)) ∙ append-nil (x xor b)) k)

  open_by_test : (s : Cmac) (full : Bool) → leb 16 s.len ≡ full → (flush ciph s).len < 16
  unfolding flush
  open_by_test s true e = rw e (omega arith)
  open_by_test s false e = rw e (leb-false 16 s.len e)

  pub flush_open : (s : Cmac) → (flush ciph s).len < 16
  flush_open s = open_by_test s (leb 16 s.len) refl

  -- a full block may be enciphered before the bytes that follow it are seen
  pub absorb_flush : (s : Cmac) (b : Bytes) → 0 < length b → absorb ciph (flush ciph s) b ≡ absorb ciph s b
  unfolding absorb
  absorb_flush s [] h = let z : ⊥ = omega arith in absurd z
  absorb_flush s (x ∷ b) h =
      ap (λ (t : Cmac). absorb ciph (add t x) b) (flush_partial (flush ciph s).chain (flush ciph s).len (flush_open s))

  begins_by_test : (s : Cmac) (full : Bool) → leb 16 s.len ≡ full → s.len % 16 ≡ 0 → (flush ciph s).len ≡ 0
  unfolding flush
  begins_by_test s true e h = rw e refl
  begins_by_test s false e h = rw e (omega (arith, leb-false 16 s.len e, h))

  -- a block begins after none, and after a full one
  pub flush_begins : (s : Cmac) → s.len % 16 ≡ 0 → (flush ciph s).len ≡ 0
  flush_begins s = begins_by_test s (leb 16 s.len) refl

  -- a whole block b after flush gave t
  pub whole_block : (s t : Cmac) (b c : Bytes) → t ≡ flush ciph s → length t.chain ≡ 16 → t.len ≡ 0 → length b ≡ 16
      → c ≡ t.chain xor b → state c 16 ≡ absorb ciph s b
  unfolding absorb
  whole_block s t b c f l z h e =
      ap (λ (x : Bytes). state x 16) e
      ∙ sym (absorb_block t.chain b [] l h)
      ∙ ap₂ (λ (n : ℕ) (m : Bytes). absorb ciph (state t.chain n) m) (sym z) (append-nil b)
      ∙ ap (λ (u : Cmac). absorb ciph u b) f
      ∙ absorb_flush s b (omega arith)
