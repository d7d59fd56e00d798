-- A sender's chaining values: their length, the one after an entry, and two places of a log that begin with the same one.
use mathlib.Core.Path.{◌≡◌, refl, sym, ap, ◌∙◌}
use mathlib.Core.List.{[], ◌∷◌, ◌++◌, map}
use Prim.Native.Nat.{◌<◌}
use native.Mathlib.Omega.{arith}
use native.Mathlib.Decide.{dec_lt}
use lib.ListN.{length, get_or, length-append, length-map}
use Rattle.octets.specs.Bytes.{Bytes, zeros}
use Rattle.message_ciphers.specs.Ciphers.{Ciphers, Laws, IsKey}
use Rattle.message_exchange.specs.Exchange.{Entry, Log, inputs}
use Rattle.message_exchange.proofs.Places.{Repeated}
use Rattle.message_protocol.specs.Transcript.{chaining_values, chaining}
use Rattle.message_protocol.specs.Agreement.{Collision}

module _ {H : Type 0} (C : Ciphers) (key : Bytes) where
  last_snoc : (z : Bytes) (log : Log H) (e : Entry H)
      → get_or (z ∷ map (C.mac key) (inputs (log ++ e ∷ []))) (length (log ++ e ∷ [])) [] ≡ C.mac key e.input
  last_snoc z [] e = refl
  last_snoc z (x ∷ log) e = last_snoc (C.mac key x.input) log e

  last_length : Laws C → IsKey key → (z : Bytes) (log : Log H) → length z ≡ 16 → length (get_or (z ∷ map (C.mac key) (inputs log)) (length log) []) ≡ 16
  last_length L g z [] e = e
  last_length L g z (x ∷ log) e = last_length L g (C.mac key x.input) log (L.mac_length key x.input g)

  last_at : (z : Bytes) (log more : Log H)
      → get_or (z ∷ map (C.mac key) (inputs (log ++ more))) (length log) [] ≡ get_or (z ∷ map (C.mac key) (inputs log)) (length log) []
  last_at z [] more = refl
  last_at z (x ∷ log) more = last_at (C.mac key x.input) log more

  -- after an entry it is the full MAC of the entry's input
  pub chaining_snoc : (log : Log H) (e : Entry H) → chaining C key (log ++ e ∷ []) ≡ C.mac key e.input
  unfolding chaining chaining_values
  chaining_snoc log e = last_snoc (zeros 16) log e

  pub chaining_length : Laws C → IsKey key → (log : Log H) → length (chaining C key log) ≡ 16
  unfolding chaining chaining_values
  chaining_length L g log = last_length L g (zeros 16) log refl

  -- two parts of a log, of different lengths, with the same chaining value after them
  collide : (L A ys zs W : Log H) → L ++ ys ≡ W → A ++ zs ≡ W → length L < length A → chaining C key L ≡ chaining C key A → Collision C key (inputs W)
  collide L A ys zs W l a lt e =
      record { i = length L; j = length A; i<j = lt; within = inside A zs W a; equal = at L ys W l ∙ e ∙ sym (at A zs W a) }
    where
      at : (A zs W : Log H) → A ++ zs ≡ W → get_or (chaining_values C key (inputs W)) (length A) [] ≡ chaining C key A
      at A zs W a = unfold chaining chaining_values in (rw (← a) (last_at (zeros 16) A zs))

      inside : (A zs W : Log H) → A ++ zs ≡ W → length A < length (chaining_values C key (inputs W))
      inside A zs W a =
          unfold chaining_values in (rw (length-map (inputs W) (C.mac key), length-map W (λ e. e.input)) (omega (arith, simp length-append at (ap length a))))

  pub collision : (A zs W : Log H) → A ++ zs ≡ W → Repeated (chaining C key) A W → Collision C key (inputs W)
  collision A zs W a r = by (dec_lt (length r.left) (length A))
    where
      by : Dec (length r.left < length A) → Collision C key (inputs W)
      by (yes l) = collide r.left A (r.entry ∷ r.right) zs W r.whole a l r.same
      by (no l) =
          let n : length r.left ≡ length A → ⊥ = r.elsewhere in
          collide A r.left zs (r.entry ∷ r.right) W a r.whole (omega arith) (sym r.same)
