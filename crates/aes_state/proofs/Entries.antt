-- A State is known by its entries; the State of a block and the bytes of a State undo each other.
-- The laws of each transformation use these.
use mathlib.Core.Path.{◌≡◌, refl, sym, ap, ◌∙◌, subst}
use mathlib.Core.List.{[]}
use Prim.Native.Nat.{ℕ, ◌+◌, ◌*◌, ◌/◌, ◌%◌, ◌<◌}
use native.Mathlib.Nat.{mod-lt, zero-lt-suc}
use native.Mathlib.Omega.{arith}
use lib.ListN.{get_or, length}
use Rattle.octets.specs.Bytes.{Bytes, IsBytes, tabulate}
use Rattle.octets.proofs.Tabulate.{tabulate_get_d, tabulate_ext, get_d_tabulate}
use Rattle.aes_state.specs.State.{Word, State, at, state, state_of, bytes_of, IsState}

pub state_ext : {f g : ℕ → ℕ → ℕ} → ((r c : ℕ) → r < 4 → c < 4 → f r c ≡ g r c) → state f ≡ state g
state_ext h = tabulate_ext 4 (λ c hc. tabulate_ext 4 (λ r hr. h r c hr hc))

pub state_at : (s : State) → IsState s → state (at s) ≡ s
state_at s h = tabulate_ext 4 (λ c hc. tabulate_get_d 0 4 (get_or s c []) (h.rows c hc)) ∙ tabulate_get_d [] 4 s h.columns

pub column : (f : ℕ → Word) (c : ℕ) → c < 4 → get_or (tabulate 4 f) c [] ≡ f c
column f c hc = get_d_tabulate [] 4 f c hc

at_state : (f : ℕ → ℕ → ℕ) (r c : ℕ) → r < 4 → c < 4 → at (state f) r c ≡ f r c
at_state f r c hr hc =
    ap (λ (w : Word). get_or w r 0) (column (λ i. tabulate 4 (λ j. f j i)) c hc) ∙ get_d_tabulate 0 4 (λ j. f j c) r hr

pub state_is : (f : ℕ → ℕ → ℕ) → ((r c : ℕ) → r < 4 → c < 4 → f r c < 256) → IsState (state f)
state_is f h =
    record {
      columns = refl;
      rows = λ c hc. ap length (column (λ i. tabulate 4 (λ j. f j i)) c hc);
      bytes = λ r c hr hc. subst (λ (b : ℕ). b < 256) (sym (at_state f r c hr hc)) (h r c hr hc);
    }

-- ---- the State and the bytes of a block

pub bytes_of_state_of : (b : Bytes) → length b ≡ 16 → bytes_of (state_of b) ≡ b
bytes_of_state_of b h = tabulate_get_d 0 16 b h

pub state_of_bytes_of : (s : State) → IsState s → state_of (bytes_of s) ≡ s
state_of_bytes_of s h = state_at s h

pub state_of_is : (b : Bytes) → length b ≡ 16 → IsBytes b → IsState (state_of b)
state_of_is b e h = state_is (λ r c. get_or b (r + 4 * c) 0) (λ r c hr hc. h (r + 4 * c) (omega (arith, e)))

pub bytes_of_bytes : (s : State) → IsState s → IsBytes (bytes_of s)
bytes_of_bytes s h i k =
    subst (λ (b : ℕ). b < 256) (sym (get_d_tabulate 0 16 (λ (j : ℕ). at s (j % 4) (j / 4)) i k))
    (h.bytes (i % 4) (i / 4) (mod-lt i (zero-lt-suc 3)) (omega arith))
