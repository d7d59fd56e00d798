-- The running CMAC of a whole message is SP 800-38B's: the blocks before the last make C_(n-1), and the last is finished as step 4 says.
use mathlib.Core.Path.{◌≡◌, refl, sym, ap, ap₂, ◌∙◌}
use mathlib.Core.List.{[], ◌∷◌, ◌++◌, append_assoc, append-nil}
use mathlib.Core.Logic.{⊎_elim}
use Prim.Native.Nat.{ℕ, zero, suc, ◌+◌, ◌*◌, ◌-◌, ◌/◌, ◌≤◌, ◌<◌}
use native.Mathlib.Nat.{eq-or-lt_of_le, eq-zero-or-pos}
use native.Mathlib.Omega.{arith}
use borrow.Author.Tests.{le-leb, lt-leb, eq-eqb, ne_eqb}
use lib.ListN.{length, take, drop, length-append, length-take, length-drop, take-append-drop}
use lib.Seq.{take_all, drop-drop, length-take-le}
use Rattle.octets.specs.Bytes.{Bytes, zeros, ◌xor◌}
use Rattle.octets.proofs.XorBytes.{xor_bytes_comm, xor_bytes_assoc, xor_start}
use Rattle.mode_cmac.specs.declared.Cmac.{Cmac}
use Rattle.mode_cmac.specs.Subkeys.{Cipher, subkey1, subkey2}
use Rattle.mode_cmac.specs.Cmac.{block_count, block, last_block, chain, cmac}
use Rattle.mode_cmac.specs.Running.{start, flush, absorb, finish}
use Rattle.mode_cmac.proofs.BlockByBlock.{state, absorb_append, absorb_part, absorb_block, absorb_flush}

module _ (ciph : Cipher) (length_ciph : (x : Bytes) → length (ciph x) ≡ 16) where
  length_chain : (m : Bytes) (i : ℕ) → length (chain ciph m i) ≡ 16
  unfolding chain
  length_chain m zero = refl
  length_chain m (suc i) = length_ciph (chain ciph m i xor block m (suc i))

  block_suc : (m : Bytes) (i : ℕ) → block m (suc i) ≡ take 16 (drop (16 * i) m)
  unfolding block
  block_suc m i = let e : suc i - 1 ≡ i = omega arith in rw e

  length_block : (m : Bytes) (i : ℕ) → length (block m i) ≤ 16
  unfolding block
  length_block m i = simp length-take (omega arith)

  -- q whole blocks, with more to come, have made C_q
  blocks : (m : Bytes) (q : ℕ) → (0 < q → 16 * q < length m)
      → absorb ciph start m ≡ absorb ciph (state (chain ciph m q) 0) (drop (16 * q) m)
  unfolding chain start flush
  blocks m zero h = refl
  blocks m (suc q) h =
      let more : 16 * suc q < length m = h (omega arith) in
      let b : Bytes = take 16 (drop (16 * q) m) in
      let rest : Bytes = drop (16 * suc q) m in
      let e : 16 * q + 16 ≡ 16 * suc q = omega arith in
      let split : drop (16 * q) m ≡ b ++ rest =
      sym (take-append-drop 16 (drop (16 * q) m))
      ∙ ap (λ (t : Bytes). b ++ t) (drop-drop 16 (16 * q) m ∙ ap (λ (n : ℕ). drop n m) e) in
      let whole : length b ≡ 16 = length-take-le 16 (drop (16 * q) m) (simp length-drop (omega arith)) in
      blocks m q (λ p. omega arith)
      ∙ ap (absorb ciph (state (chain ciph m q) 0)) split
      ∙ absorb_block ciph (chain ciph m q) b rest (length_chain m q) whole
      ∙ sym (absorb_flush ciph (state (chain ciph m q xor b) 16) rest (simp length-drop (omega arith)))
      ∙ ap (λ (t : Bytes). absorb ciph (state (ciph (chain ciph m q xor t)) 0) rest) (sym (block_suc m q))

  finish_full : (s : Cmac) → 16 ≤ s.len → finish ciph s ≡ ciph (s.chain xor subkey1 ciph)
  unfolding finish
  finish_full s h = simp (le-leb 16 s.len h)

  finish_partial : (s : Cmac) → s.len < 16 → finish ciph s ≡ ciph ((absorb ciph s (0x80 ∷ [])).chain xor subkey2 ciph)
  unfolding finish absorb flush
  finish_partial s h = simp (lt-leb 16 s.len h)

  -- step 4, of a complete block and of any other
  last_full : (x b : Bytes) → length x ≡ 16 → length b ≡ 16
      → finish ciph (absorb ciph (state x 0) b) ≡ ciph (x xor last_block ciph b)
  unfolding last_block absorb
  last_full x b h k =
      let s : absorb ciph (state x 0) b ≡ state (x xor b) 16 =
      ap (absorb ciph (state x 0)) (sym (append-nil b)) ∙ absorb_block ciph x b [] h k in
      ap (finish ciph) s
      ∙ finish_full (state (x xor b) 16) (omega arith)
      ∙ ap ciph (xor_bytes_assoc x b (subkey1 ciph) ∙ ap (λ (t : Bytes). x xor t) (xor_bytes_comm b (subkey1 ciph)))
      ∙ simp (eq-eqb (length b) 16 k)

  last_partial : (x b : Bytes) → length x ≡ 16 → length b < 16
      → finish ciph (absorb ciph (state x 0) b) ≡ ciph (x xor last_block ciph b)
  unfolding last_block
  last_partial x b h k =
      let len : (absorb ciph (state x 0) b).len ≡ length b = ap (λ (s : Cmac). s.len) (absorb_part ciph x b h (omega arith)) in
      let p : Bytes = b ++ 0x80 ∷ [] in
      let lp : length p ≡ length b + 1 = length-append b (0x80 ∷ []) in
      let e : length x - length p ≡ 15 - length b = omega arith in
      let filled : (absorb ciph (absorb ciph (state x 0) b) (0x80 ∷ [])).chain ≡ x xor (b ++ 0x80 ∷ zeros (15 - length b)) =
      ap (λ (s : Cmac). s.chain) (sym (absorb_append ciph (state x 0) b (0x80 ∷ [])) ∙ absorb_part ciph x p h (omega arith))
      ∙ xor_start x p (omega arith)
      ∙ ap (λ (t : Bytes). x xor t) (ap (λ (n : ℕ). p ++ zeros n) e ∙ append_assoc b (0x80 ∷ []) (zeros (15 - length b))) in
      finish_partial (absorb ciph (state x 0) b) (omega arith)
      ∙ ap (λ (t : Bytes). ciph (t xor subkey2 ciph)) filled
      ∙ ap ciph (xor_bytes_assoc x (b ++ 0x80 ∷ zeros (15 - length b)) (subkey2 ciph)
      ∙ ap (λ (t : Bytes). x xor t) (xor_bytes_comm (b ++ 0x80 ∷ zeros (15 - length b)) (subkey2 ciph)))
      ∙ simp (ne_eqb (length b) 16 (λ p. omega arith))

  last : (x b : Bytes) → length x ≡ 16 → length b ≤ 16 → finish ciph (absorb ciph (state x 0) b) ≡ ciph (x xor last_block ciph b)
  last x b h k = ⊎_elim (last_full x b h) (last_partial x b h) (eq-or-lt_of_le k)

  -- the message's last block, M_n*, is what follows the blocks before it
  rest_is_last : (m : Bytes) (q : ℕ) → length m ≤ 16 * suc q → drop (16 * q) m ≡ block m (suc q)
  rest_is_last m q h = sym (block_suc m q ∙ take_all 16 (drop (16 * q) m) (simp length-drop (omega arith)))

  count_empty : (m : Bytes) → length m ≡ 0 → block_count m ≡ 1
  unfolding block_count
  count_empty m h = simp (eq-eqb (length m) 0 h)

  count_some : (m : Bytes) → 0 < length m → block_count m ≡ (length m + 15) / 16
  unfolding block_count
  count_some m h = simp (ne_eqb (length m) 0 (λ p. omega arith))

  -- n blocks, q of them before the last
  run : (m : Bytes) (q : ℕ) → block_count m ≡ suc q → (0 < q → 16 * q < length m) → length m ≤ 16 * suc q
      → finish ciph (absorb ciph start m) ≡ cmac ciph m
  unfolding cmac
  run m q n more fits =
      let e : block_count m - 1 ≡ q = omega arith in
      ap (finish ciph) (blocks m q more ∙ ap (absorb ciph (state (chain ciph m q) 0)) (rest_is_last m q fits))
      ∙ last (chain ciph m q) (block m (suc q)) (length_chain m q) (length_block m (suc q))
      ∙ sym (ap₂ (λ (i j : ℕ). ciph (chain ciph m i xor last_block ciph (block m j))) e n)

  pub cmac_running : (m : Bytes) → finish ciph (absorb ciph start m) ≡ cmac ciph m
  cmac_running m =
      ⊎_elim (λ p. run m 0 (count_empty m p) (λ q. omega arith) (omega arith))
      (λ p.
      let n : block_count m ≡ suc ((length m - 1) / 16) = omega (arith, count_some m p) in
      run m ((length m - 1) / 16) n (λ q. omega arith) (omega arith)) (eq-zero-or-pos (length m))

  pub length_cmac : (m : Bytes) → length (cmac ciph m) ≡ 16
  unfolding cmac
  length_cmac m = length_ciph (chain ciph m (block_count m - 1) xor last_block ciph (block m (block_count m)))
