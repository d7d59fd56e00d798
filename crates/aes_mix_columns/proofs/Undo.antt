-- InvMixColumns undoes MixColumns on every State, and MixColumns makes a State of a State.
use mathlib.Core.Path.{◌≡◌, refl, sym, ap, ◌∙◌, subst}
use mathlib.Core.List.{[]}
use Prim.Native.Nat.{◌<◌}
use lib.ListN.{get_or, length}
use Rattle.octets.proofs.Tabulate.{tabulate_get_d, tabulate_ext}
use Rattle.aes_mix_columns.specs.MixColumn.{mix_column}
use Rattle.aes_mix_columns.proofs.MixColumn.{inv_mix_column-mix_column, mix_column_byte}
use Rattle.aes_state.specs.State.{Word, State, IsState}
use Rattle.aes_state.proofs.Entries.{column}
use Rattle.aes_mix_columns.specs.MixColumns.{mix_columns, inv_mix_columns}

pub inv_mix_columns-mix_columns : (s : State) → IsState s → inv_mix_columns (mix_columns s) ≡ s
inv_mix_columns-mix_columns s h =
    tabulate_ext 4 (λ c hc. inv_mix_column-mix_column (get_or s c []) (h.rows c hc)) ∙ tabulate_get_d [] 4 s h.columns

pub mix_columns_is : (s : State) → IsState s → IsState (mix_columns s)
unfolding mix_column
mix_columns_is s h =
    record {
      columns = refl;
      rows = λ c hc. ap length (column (λ i. mix_column (get_or s i [])) c hc);
      bytes =
          λ r c hr hc.
          subst (λ (w : Word). get_or w r 0 < 256) (sym (column (λ i. mix_column (get_or s i [])) c hc))
          (mix_column_byte (get_or s c []) (λ i k. h.bytes i c k hc) r hr);
    }
