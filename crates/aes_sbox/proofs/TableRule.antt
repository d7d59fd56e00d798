-- The two tables of src/tables.rt follow their rules: one test over each table, computed, and the rule at each entry.
use mathlib.Core.Path.{◌≡◌, sym, ap, ◌∙◌}
use mathlib.Core.Bool.{Bool}
use Prim.Native.Nat.{ℕ, ◌<◌}
use lib.Dec.{eqb, eqb→eq, ltb, ltb→lt}
use lib.ListN.{get_or}
use Rattle.octets.proofs.Table.{at}
use Rattle.aes_sbox.specs.SBox.{bit, from_bits, affine_bit, affine, s_box, inv_affine_bit, inv_affine, inv_s_box, IsTable}
use Rattle.aes_sbox.proofs.Entries.{table, inv_table}
use Rattle.aes_inverses.proofs.Inverses.{inverses, inverse_at}

follows : ℕ → ℕ → Bool
follows b x = eqb x (affine (get_or inverses b 0))

pub sbox_table : IsTable s_box table
unfolding follows bit from_bits affine_bit affine s_box
sbox_table = record {
  rule = λ b h. eqb→eq (get_or table b 0) (affine (get_or inverses b 0)) (at follows table tt b h) ∙ ap affine (inverse_at b h);
}

affine_small : ℕ → ℕ → Bool
affine_small b x = ltb (inv_affine b) 256

inv_affine_lt : (b : ℕ) → b < 256 → inv_affine b < 256
unfolding affine_small bit from_bits inv_affine_bit inv_affine
inv_affine_lt b h = ltb→lt (inv_affine b) 256 (at affine_small inv_table tt b h)

inv_follows : ℕ → ℕ → Bool
inv_follows b x = eqb x (get_or inverses (inv_affine b) 0)

pub inv_sbox_table : IsTable inv_s_box inv_table
unfolding inv_follows bit from_bits inv_affine_bit inv_affine inv_s_box
inv_sbox_table = record {
  rule = λ b h.
      eqb→eq (get_or inv_table b 0) (get_or inverses (inv_affine b) 0) (at inv_follows inv_table tt b h)
      ∙ inverse_at (inv_affine b) (inv_affine_lt b h);
}

-- ---- one table undoes the other

small : ℕ → ℕ → Bool
small b x = ltb x 256

table_lt : (b : ℕ) → b < 256 → get_or table b 0 < 256
unfolding small
table_lt b h = ltb→lt (get_or table b 0) 256 (at small table tt b h)

undone : ℕ → ℕ → Bool
undone b x = eqb (get_or inv_table x 0) b

pub inv_s_box-s_box : (b : ℕ) → b < 256 → inv_s_box (s_box b) ≡ b
unfolding undone
inv_s_box-s_box b h =
    ap inv_s_box (sym (sbox_table.rule b h)) ∙ sym (inv_sbox_table.rule (get_or table b 0) (table_lt b h))
    ∙ eqb→eq (get_or inv_table (get_or table b 0) 0) b (at undone table tt b h)
