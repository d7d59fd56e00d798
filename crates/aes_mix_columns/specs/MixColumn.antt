-- FIPS 197, 5.1.3 and 5.3.3: MixColumns and InvMixColumns, of one column of the State.
use Rattle.std.specs.Prelude.{[], ◌∷◌, get_or}
use Rattle.octets.specs.Bytes.{Bytes, ◌⊕◌}
use Rattle.aes_gf.specs.Field.{◌•◌}

-- four bytes
abbrev pub Column : Type 0
Column = Bytes

-- 5.1.3: a column times the matrix of {02}, {03}, {01}, {01}
unfoldable pub mix_column : Column → Column
mix_column s =
    let s0 = get_or s 0 0 in
    let s1 = get_or s 1 0 in
    let s2 = get_or s 2 0 in
    let s3 = get_or s 3 0 in
    (2 • s0 ⊕ 3 • s1 ⊕ s2 ⊕ s3)
    ∷ (s0 ⊕ 2 • s1 ⊕ 3 • s2 ⊕ s3)
    ∷ (s0 ⊕ s1 ⊕ 2 • s2 ⊕ 3 • s3)
    ∷ (3 • s0 ⊕ s1 ⊕ s2 ⊕ 2 • s3)
    ∷ []

-- 5.3.3: a column times the matrix of {0e}, {0b}, {0d}, {09}
unfoldable pub inv_mix_column : Column → Column
inv_mix_column s =
    let s0 = get_or s 0 0 in
    let s1 = get_or s 1 0 in
    let s2 = get_or s 2 0 in
    let s3 = get_or s 3 0 in
    (0x0e • s0 ⊕ 0x0b • s1 ⊕ 0x0d • s2 ⊕ 0x09 • s3)
    ∷ (0x09 • s0 ⊕ 0x0e • s1 ⊕ 0x0b • s2 ⊕ 0x0d • s3)
    ∷ (0x0d • s0 ⊕ 0x09 • s1 ⊕ 0x0e • s2 ⊕ 0x0b • s3)
    ∷ (0x0b • s0 ⊕ 0x0d • s1 ⊕ 0x09 • s2 ⊕ 0x0e • s3)
    ∷ []
