-- A mode that works on a buffer block by block: the blocks done so far, followed by the mode of the rest, is the mode of the
-- whole. Once for encryption and decryption.
use mathlib.Core.Path.{◌≡◌, refl, sym, ap, ap₂, ◌∙◌}
use mathlib.Core.List.{List, [], ◌∷◌, ◌++◌, append_assoc, append-nil}
use Prim.Native.Nat.{ℕ, suc, ◌+◌, ◌*◌, ◌-◌, ◌/◌, ◌<◌, ◌≤◌}
use native.Mathlib.Omega.{arith}
use lib.ListN.{length, take, drop, length-append}
use lib.Seq.{take_at, drop_at, take_all, drop-drop, length-take-le}
use Rattle.octets.specs.Bytes.{Bytes, ◌xor◌}
use Rattle.octets.specs.Write.{put}
use Rattle.mode_cbc.specs.Cbc.{blocks, joined, encrypt_blocks, decrypt_blocks, cbc_encrypt, cbc_decrypt}

-- the blocks put so far
head : Bytes → ℕ → Bytes → Bytes
head xs at c = take at xs ++ c

head_length : (xs : Bytes) (at : ℕ) (c : Bytes) → at ≤ length xs → length (head xs at c) ≡ at + length c
unfolding head
head_length xs at c h = simp (length-append, length-take-le at xs h)

head_join : (xs : Bytes) (at : ℕ) (c t : Bytes) → head xs at c ++ t ≡ take at xs ++ (c ++ t)
unfolding head
head_join xs at c t = append_assoc (take at xs) c t

put_head : (xs : Bytes) (at : ℕ) (c : Bytes) → put xs at c ≡ head xs at c ++ drop (at + length c) xs
unfolding head put
put_head xs at c = refl

-- the buffer b with i of its n blocks done, and what the mode makes of the others
unfoldable pub pending : (Bytes → List Bytes → List Bytes) → ℕ → Bytes → ℕ → Bytes → Bytes
pending mode n v i b = take (16 * i) b ++ joined (mode v (blocks (n - i) (drop (16 * i) b)))

pending_start : (mode : Bytes → List Bytes → List Bytes) (n : ℕ) (v b : Bytes) → pending mode n v 0 b ≡ joined (mode v (blocks n b))
unfolding pending
pending_start mode n v b = let e : n - 0 ≡ n = omega arith in ap (λ (m : ℕ). joined (mode v (blocks m b))) e

-- f: what a block x gives after the block or IV v; g: what the next block is worked with
module _ (f g : Bytes → Bytes → Bytes) (mode : Bytes → List Bytes → List Bytes)
    (none : (v : Bytes) → mode v [] ≡ [])
    (some : (v x : Bytes) (xs : List Bytes) → mode v (x ∷ xs) ≡ f v x ∷ mode (g v x) xs) where
  rest : (m : ℕ) (v d : Bytes) → joined (mode v (blocks (suc m) d)) ≡ f v (take 16 d) ++ joined (mode (g v (take 16 d)) (blocks m (drop 16 d)))
  unfolding blocks joined
  rest m v d = ap joined (some v (take 16 d) (blocks m (drop 16 d)))

  pub pending_more : (n i : ℕ) (v b : Bytes) {x c u b' : Bytes} → i < n → 16 * n ≤ length b
      → x ≡ take 16 (drop (16 * i) b) → c ≡ f v x → length c ≡ 16 → u ≡ g v x → b' ≡ put b (16 * i) c
      → pending mode n u (i + 1) b' ≡ pending mode n v i b
  unfolding pending
  pending_more n i v b {x} {c} {u} {b'} h k ex ec lc eu eb =
      let d : Bytes = drop (16 * i) b in
      let m : ℕ = n - (i + 1) in
      let p : Bytes = head b (16 * i) c in
      let q : Bytes = drop (16 * i + length c) b in
      let lp : length p ≡ 16 * (i + 1) = head_length b (16 * i) c (omega arith) ∙ omega (arith, lc) in
      let e : b' ≡ p ++ q = eb ∙ put_head b (16 * i) c in
      let et : take (16 * (i + 1)) b' ≡ p = ap (take (16 * (i + 1))) e ∙ take_at p q (16 * (i + 1)) lp in
      let ed : drop (16 * (i + 1)) b' ≡ drop 16 d =
      ap (drop (16 * (i + 1))) e ∙ drop_at p q (16 * (i + 1)) lp ∙ ap (λ (l : ℕ). drop (16 * i + l) b) lc
      ∙ sym (drop-drop 16 (16 * i) b) in
      ap₂ (λ (s t : Bytes). s ++ joined (mode u (blocks m t))) et ed
      ∙ head_join b (16 * i) c (joined (mode u (blocks m (drop 16 d))))
      ∙ ap (λ (s : Bytes). take (16 * i) b ++ s)
      (ap₂ (λ (s t : Bytes). s ++ joined (mode t (blocks m (drop 16 d)))) (ec ∙ ap (f v) ex) (eu ∙ ap (g v) ex)
      ∙ sym (rest m v d)
      ∙ ap (λ (l : ℕ). joined (mode v (blocks l d))) (omega arith))

  pub pending_end : (n i : ℕ) (v b : Bytes) → n ≤ i → length b ≤ 16 * i → pending mode n v i b ≡ b
  unfolding pending blocks joined
  pending_end n i v b h k =
      let e : n - i ≡ 0 = omega arith in
      ap₂ (λ (s : Bytes) (m : ℕ). s ++ joined (mode v (blocks m (drop (16 * i) b)))) (take_all (16 * i) b k) e
      ∙ ap (λ (t : List Bytes). b ++ joined t) (none v) ∙ append-nil b

-- ---- encryption and decryption

module _ (ciph : Bytes → Bytes) where
  next : Bytes → Bytes → Bytes
  next v x = ciph (x xor v)

  some : (v x : Bytes) (xs : List Bytes) → encrypt_blocks ciph v (x ∷ xs) ≡ next v x ∷ encrypt_blocks ciph (next v x) xs
  unfolding next encrypt_blocks
  some v x xs = refl

  none : (v : Bytes) → encrypt_blocks ciph v [] ≡ []
  unfolding encrypt_blocks
  none v = refl

  pub encrypt_start : (iv xs : Bytes) → pending (encrypt_blocks ciph) (length xs / 16) iv 0 xs ≡ cbc_encrypt ciph iv xs
  unfolding cbc_encrypt
  encrypt_start iv xs = pending_start (encrypt_blocks ciph) (length xs / 16) iv xs

  pub encrypt_more : (n i : ℕ) (v b : Bytes) {x y c b' : Bytes} → i < n → 16 * n ≤ length b
      → x ≡ take 16 (drop (16 * i) b) → y ≡ x xor v → c ≡ ciph y → length c ≡ 16 → b' ≡ put b (16 * i) c
      → pending (encrypt_blocks ciph) n c (i + 1) b' ≡ pending (encrypt_blocks ciph) n v i b
  unfolding next
  encrypt_more n i v b h k ex ey ec lc eb =
      pending_more next next (encrypt_blocks ciph) none some n i v b h k ex (ec ∙ ap ciph ey) lc (ec ∙ ap ciph ey) eb

  pub encrypt_end : (n i : ℕ) (v b : Bytes) → n ≤ i → length b ≤ 16 * i → pending (encrypt_blocks ciph) n v i b ≡ b
  encrypt_end n i v b h k = pending_end next next (encrypt_blocks ciph) none some n i v b h k

module _ (inv_ciph : Bytes → Bytes) where
  plain : Bytes → Bytes → Bytes
  plain v x = inv_ciph x xor v

  same : Bytes → Bytes → Bytes
  same v x = x

  inv_some : (v x : Bytes) (xs : List Bytes) → decrypt_blocks inv_ciph v (x ∷ xs) ≡ plain v x ∷ decrypt_blocks inv_ciph (same v x) xs
  unfolding plain same decrypt_blocks
  inv_some v x xs = refl

  inv_none : (v : Bytes) → decrypt_blocks inv_ciph v [] ≡ []
  unfolding decrypt_blocks
  inv_none v = refl

  pub decrypt_start : (iv xs : Bytes) → pending (decrypt_blocks inv_ciph) (length xs / 16) iv 0 xs ≡ cbc_decrypt inv_ciph iv xs
  unfolding cbc_decrypt
  decrypt_start iv xs = pending_start (decrypt_blocks inv_ciph) (length xs / 16) iv xs

  pub decrypt_more : (n i : ℕ) (v b : Bytes) {x y p b' : Bytes} → i < n → 16 * n ≤ length b
      → x ≡ take 16 (drop (16 * i) b) → y ≡ inv_ciph x → p ≡ y xor v → length p ≡ 16 → b' ≡ put b (16 * i) p
      → pending (decrypt_blocks inv_ciph) n x (i + 1) b' ≡ pending (decrypt_blocks inv_ciph) n v i b
  unfolding plain same
  decrypt_more n i v b h k ex ey ep lp eb =
      pending_more plain same (decrypt_blocks inv_ciph) inv_none inv_some n i v b h k ex (ep ∙ ap (λ (z : Bytes). z xor v) ey) lp refl eb

  pub decrypt_end : (n i : ℕ) (v b : Bytes) → n ≤ i → length b ≤ 16 * i → pending (decrypt_blocks inv_ciph) n v i b ≡ b
  decrypt_end n i v b h k = pending_end plain same (decrypt_blocks inv_ciph) inv_none inv_some n i v b h k
