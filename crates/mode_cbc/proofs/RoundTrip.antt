-- CBC decryption undoes CBC encryption, on every string of whole blocks.
use mathlib.Core.Path.{◌≡◌, refl, sym, ap, ap₂, ◌∙◌}
use mathlib.Core.List.{List, [], ◌∷◌, ◌++◌}
use Prim.Native.Nat.{ℕ, zero, suc, ◌*◌, ◌/◌, ◌%◌}
use native.Mathlib.Omega.{arith}
use lib.ListN.{length, take, drop, length-append, length-drop, take-append-drop}
use lib.Seq.{take_at, drop_at, length-take-le}
use Rattle.octets.specs.Bytes.{Bytes, IsBytes, ◌xor◌}
use Rattle.octets.proofs.ByteStrings.{bytes_taken, bytes_drop}
use Rattle.octets.proofs.XorBytes.{length_xor, bytes_xor, xor_bytes_undo}
use Rattle.aes.specs.Aes.{aes, inv_aes}
use Rattle.aes.specs.BlockCipher.{IsBlock, BlockCipher}
use Rattle.aes_key_expansion.specs.declared.KeySize.{KeySize}
use Rattle.aes.proofs.RoundTrip.{aes_is}
use Rattle.mode_cbc.specs.Cbc.{blocks, joined, encrypt_blocks, decrypt_blocks, cbc_encrypt, cbc_decrypt}

xor_block : (a b : Bytes) → IsBlock a → IsBlock b → IsBlock (a xor b)
xor_block a b ha hb =
    record {
      size = length_xor a b (ha.size ∙ sym hb.size) ∙ hb.size;
      bytes = bytes_xor a b ha.bytes hb.bytes;
    }

-- ---- strings and their blocks

Blocks : List Bytes → Type 0
Blocks [] = Unit {0}
Blocks (b ∷ bs) = IsBlock b × Blocks bs

blocks_joined : (bs : List Bytes) → Blocks bs → blocks (length bs) (joined bs) ≡ bs
unfolding Blocks blocks joined
blocks_joined [] h = refl
blocks_joined (b ∷ bs) (hb, hs) =
    ap₂ (λ (x : Bytes) (xs : List Bytes). x ∷ xs) (take_at b (joined bs) 16 hb.size)
    (ap (blocks (length bs)) (drop_at b (joined bs) 16 hb.size) ∙ blocks_joined bs hs)

length_joined : (bs : List Bytes) → Blocks bs → length (joined bs) ≡ 16 * length bs
unfolding Blocks joined
length_joined [] h = refl
length_joined (b ∷ bs) (hb, hs) = length-append b (joined bs) ∙ omega (arith, hb.size, length_joined bs hs)

joined_blocks : (n : ℕ) (xs : Bytes) → length xs ≡ 16 * n → joined (blocks n xs) ≡ xs
unfolding blocks joined
joined_blocks zero [] h = refl
joined_blocks zero (x ∷ xs) h = let z : ⊥ = omega arith in absurd z
joined_blocks (suc n) xs h =
    ap (λ (t : Bytes). take 16 xs ++ t) (joined_blocks n (drop 16 xs) (simp length-drop (omega arith))) ∙ take-append-drop 16 xs

are_blocks : (n : ℕ) (xs : Bytes) → length xs ≡ 16 * n → IsBytes xs → Blocks (blocks n xs)
unfolding blocks Blocks
are_blocks zero xs h k = tt
are_blocks (suc n) xs h k = (
  record { size = length-take-le 16 xs (omega arith); bytes = bytes_taken 16 xs k },
  are_blocks n (drop 16 xs) (simp length-drop (omega arith)) (bytes_drop 16 xs k),
)

length_blocks : (n : ℕ) (xs : Bytes) → length (blocks n xs) ≡ n
unfolding blocks
length_blocks zero xs = refl
length_blocks (suc n) xs = ap suc (length_blocks n (drop 16 xs))

-- ---- the mode

module _ (ciph inv_ciph : Bytes → Bytes) (c : BlockCipher ciph inv_ciph) where
  encrypted_blocks : (iv : Bytes) → IsBlock iv → (ps : List Bytes) → Blocks ps → Blocks (encrypt_blocks ciph iv ps)
  unfolding Blocks encrypt_blocks
  encrypted_blocks iv hv [] h = tt
  encrypted_blocks iv hv (p ∷ ps) (hp, hs) =
      let hc : IsBlock (ciph (p xor iv)) = c.block (p xor iv) (xor_block p iv hp hv) in
      (hc, encrypted_blocks (ciph (p xor iv)) hc ps hs)

  length_encrypted : (iv : Bytes) (ps : List Bytes) → length (encrypt_blocks ciph iv ps) ≡ length ps
  unfolding encrypt_blocks
  length_encrypted iv [] = refl
  length_encrypted iv (p ∷ ps) = ap suc (length_encrypted (ciph (p xor iv)) ps)

  decrypted : (iv : Bytes) → IsBlock iv → (ps : List Bytes) → Blocks ps → decrypt_blocks inv_ciph iv (encrypt_blocks ciph iv ps) ≡ ps
  unfolding Blocks encrypt_blocks decrypt_blocks
  decrypted iv hv [] h = refl
  decrypted iv hv (p ∷ ps) (hp, hs) =
      let hx : IsBlock (p xor iv) = xor_block p iv hp hv in
      ap₂ (λ (x : Bytes) (xs : List Bytes). x ∷ xs)
      (ap (λ (x : Bytes). x xor iv) (c.undo (p xor iv) hx) ∙ xor_bytes_undo p iv (hp.size ∙ sym hv.size))
      (decrypted (ciph (p xor iv)) (c.block (p xor iv) hx) ps hs)

  -- the ciphertext is as long as the plaintext
  pub length_cbc_encrypt : (iv : Bytes) → IsBlock iv → (plaintext : Bytes) → length plaintext % 16 ≡ 0 → IsBytes plaintext
      → length (cbc_encrypt ciph iv plaintext) ≡ length plaintext
  unfolding cbc_encrypt
  length_cbc_encrypt iv hv xs h k =
      let n : ℕ = length xs / 16 in
      let whole : length xs ≡ 16 * n = omega arith in
      let ps : List Bytes = blocks n xs in
      let hc : Blocks (encrypt_blocks ciph iv ps) = encrypted_blocks iv hv ps (are_blocks n xs whole k) in
      length_joined (encrypt_blocks ciph iv ps) hc ∙ omega (arith, length_encrypted iv ps, length_blocks n xs)

  pub cbc_decrypt_cbc_encrypt : (iv : Bytes) → IsBlock iv → (plaintext : Bytes) → length plaintext % 16 ≡ 0 → IsBytes plaintext
      → cbc_decrypt inv_ciph iv (cbc_encrypt ciph iv plaintext) ≡ plaintext
  unfolding cbc_encrypt cbc_decrypt
  cbc_decrypt_cbc_encrypt iv hv xs h k =
      let n : ℕ = length xs / 16 in
      let whole : length xs ≡ 16 * n = omega arith in
      let ps : List Bytes = blocks n xs in
      let hp : Blocks ps = are_blocks n xs whole k in
      let cs : List Bytes = encrypt_blocks ciph iv ps in
      let hc : Blocks cs = encrypted_blocks iv hv ps hp in
      let lc : length cs ≡ n = length_encrypted iv ps ∙ length_blocks n xs in
      let m : length (joined cs) / 16 ≡ length cs = omega (arith, length_joined cs hc) in
      ap (λ (l : ℕ). joined (decrypt_blocks inv_ciph iv (blocks l (joined cs)))) m
      ∙ ap (λ (bs : List Bytes). joined (decrypt_blocks inv_ciph iv bs)) (blocks_joined cs hc)
      ∙ ap joined (decrypted iv hv ps hp)
      ∙ joined_blocks n xs whole

-- the length alone, under any cipher that gives blocks
module _ (ciph : Bytes → Bytes) (block : (x : Bytes) → length (ciph x) ≡ 16) where
  joined_length : (iv : Bytes) (ps : List Bytes) → length (joined (encrypt_blocks ciph iv ps)) ≡ 16 * length ps
  unfolding encrypt_blocks joined
  joined_length iv [] = refl
  joined_length iv (p ∷ ps) =
      length-append (ciph (p xor iv)) (joined (encrypt_blocks ciph (ciph (p xor iv)) ps))
      ∙ omega (arith, block (p xor iv), joined_length (ciph (p xor iv)) ps)

  pub length_cbc : (iv xs : Bytes) → length (cbc_encrypt ciph iv xs) ≡ 16 * (length xs / 16)
  unfolding cbc_encrypt
  length_cbc iv xs =
      joined_length iv (blocks (length xs / 16) xs) ∙ ap (λ (n : ℕ). 16 * n) (length_blocks (length xs / 16) xs)

-- with AES, for every key of either size
pub cbc_aes : (size : KeySize) (key : Bytes) → IsBytes key → (iv : Bytes) → IsBlock iv
    → (plaintext : Bytes) → length plaintext % 16 ≡ 0 → IsBytes plaintext
    → cbc_decrypt (inv_aes size key) iv (cbc_encrypt (aes size key) iv plaintext) ≡ plaintext
cbc_aes size key hk = cbc_decrypt_cbc_encrypt (aes size key) (inv_aes size key) (aes_is size key hk)
