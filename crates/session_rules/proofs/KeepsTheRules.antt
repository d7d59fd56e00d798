-- Every call keeps the rules: an opening that is not refused gives a session that calls are served with, a command and its
-- response leave it so, and a closed session is by the rules and not served.
use mathlib.Core.Path.{◌≡◌, refl, sym, ap, ◌∙◌}
use mathlib.Core.Bool.{Bool, true, false, ◌&&◌}
use Prim.Native.Nat.{ℕ, zero, suc, ◌+◌, ◌-◌, ◌<◌, ◌≤◌}
use native.Mathlib.Omega.{arith}
use borrow.Author.Tests.{eq-eqb, ne_eqb, eqb-true, le-leb, leb-true}
use lib.Dec.{eqb, leb}
use lib.ListN.{length, drop}
use lib.Seq.{drop_at}
use Rattle.octets.specs.Bytes.{Bytes, zeros}
use Rattle.std.specs.Prelude.{if◌then◌else◌}
use Rattle.octets.proofs.Tests.{both, and_intro}
use Rattle.session_suite.specs.Suites.{key_length, suite_of}
use Rattle.session.specs.Session.{fresh, closed}
use Rattle.session_turn.specs.Transitions.{command_taken, response_taken}
use Rattle.session_suite.specs.StoredKeys.{stored, Keys, keys_fit}
use Rattle.session.specs.Opening.{open_suite, opening}
use Rattle.session.specs.declared.Side.{Side}
use Rattle.session_suite.specs.declared.Suite.{Suite}
use Rattle.std.specs.Prelude.{Option, Some, None, Ok}
use Rattle.session.specs.declared.Phase.{Phase}
use Rattle.session.specs.declared.Phase.TheVariants.{Ready, Pending, Closed}
use Rattle.session.specs.declared.Session.{Session}
use Rattle.session_suite.proofs.StoredKeys.{fitting}
use Rattle.session_rules.specs.Valid.{keeps_phase, valid, is_open, counts_as_open}
use Rattle.session_rules.specs.ZeroBytes.{all_zero, keys_end, keys_zero, mcvs_zero}

zeros_are_zero : (n : ℕ) → all_zero (zeros n) ≡ true
unfolding all_zero
zeros_are_zero zero = refl
zeros_are_zero (suc n) = zeros_are_zero n

-- ---- what the rules say, by phase

rules : (s : Session) (phase : Phase) → counts_as_open s ≡ true → s.phase ≡ phase
    → (s.count ≤ 65535) × (keeps_phase s phase ≡ true)
unfolding counts_as_open valid
rules s phase h e =
    let v = both (leb s.count 65535) (keeps_phase s s.phase) (both (is_open s.phase) (valid s) h).1 in
    (leb-true s.count 65535 v.0, sym (ap (keeps_phase s) e) ∙ v.1)

serves : (s : Session) → is_open s.phase ≡ true → s.count ≤ 65535 → keeps_phase s s.phase ≡ true
    → counts_as_open s ≡ true
unfolding counts_as_open valid
serves s o h k = and_intro o (and_intro (le-leb s.count 65535 h) k)

-- ---- closing

pub closed_valid : (s : Session) → valid (closed s) ≡ true
unfolding valid keeps_phase keys_zero mcvs_zero all_zero
closed_valid s = refl

pub closed_not_served : (s : Session) → counts_as_open (closed s) ≡ false
unfolding counts_as_open
closed_not_served s = refl

-- ---- opening

behind : (key : Bytes) (n : ℕ) → length key ≡ n → all_zero (drop n (stored key)) ≡ true
behind key n h = rw (drop_at key (zeros (32 - length key)) n h) (zeros_are_zero (32 - length key))

fresh_served : (side : Side) (suite : Suite) (k : Keys) → keys_fit (key_length suite) k ≡ true
    → counts_as_open (fresh side suite (stored k.enc) (stored k.mac) (stored k.rmac)) ≡ true
unfolding counts_as_open valid keeps_phase keys_end mcvs_zero all_zero
fresh_served side suite k h =
    let f = fitting (key_length suite) k h in
    let n = key_length suite in
    and_intro (and_intro (and_intro (behind k.enc n f.enc) (behind k.mac n f.mac)) (behind k.rmac n f.rmac)) refl

pub opening_served : (side : Side) (suite : ℕ) (k : Keys) → (opening side suite k).answer ≡ Ok tt
    → counts_as_open (opening side suite k).next ≡ true
unfolding opening open_suite
opening_served side suite k = go (suite_of suite)
  where
    at_suite : (known : Suite) (fit : Bool) → keys_fit (key_length known) k ≡ fit
        → (open_suite side (Some known) k).answer ≡ Ok tt → counts_as_open (open_suite side (Some known) k).next ≡ true
    at_suite known true f e = rw f (fresh_served side known k f)
    at_suite known false f e = let g = rw f at e in let z : ◌≡◌ {A = ℕ} 0 1 = cc in let o : ⊥ = omega arith in absurd o

    go : (known : Option Suite) → (open_suite side known k).answer ≡ Ok tt → counts_as_open (open_suite side known k).next ≡ true
    go (Some known) e = at_suite known (keys_fit (key_length known) k) refl e
    go None e = let z : ◌≡◌ {A = ℕ} 0 1 = cc in let o : ⊥ = omega arith in absurd o

-- ---- a command, and its response

pub command_served : (s : Session) (mcv : Bytes) → counts_as_open s ≡ true → s.phase ≡ Ready → s.count < 65535
    → counts_as_open (command_taken s mcv) ≡ true
unfolding keeps_phase keys_end mcvs_zero
command_served s mcv h e l =
    let r = both (keys_end s) (if eqb s.count 0 then mcvs_zero s else true) (rules s Ready h e).1 in
    serves (command_taken s mcv) refl (omega arith)
    (and_intro (and_intro r.0 (le-leb 1 (s.count + 1) (omega arith))) (first (eqb (s.count + 1) 1) refl r.1))
  where
    first : (t : Bool) → eqb (s.count + 1) 1 ≡ t → (if eqb s.count 0 then mcvs_zero s else true) ≡ true
        → (if t then all_zero s.response_mcv else true) ≡ true
    first true p q =
        let z : s.count ≡ 0 = omega (arith, eqb-true (s.count + 1) 1 p) in
        (both (all_zero s.command_mcv) (all_zero s.response_mcv) (rw (eq-eqb s.count 0 z) at q)).1
    first false p q = refl

pub response_served : (s : Session) (mcv : Bytes) → counts_as_open s ≡ true → s.phase ≡ Pending
    → counts_as_open (response_taken s mcv) ≡ true
unfolding keeps_phase keys_end
response_served s mcv h e =
    let k = rules s Pending h e in
    let r = both (keys_end s && leb 1 s.count) (if eqb s.count 1 then all_zero s.response_mcv else true) k.1 in
    let b = both (keys_end s) (leb 1 s.count) r.0 in
    let n = leb-true 1 s.count b.1 in
    serves (response_taken s mcv) refl k.0 (and_intro b.0 (rw (ne_eqb s.count 0 (λ z. omega arith))))

-- ---- what calls are served with

pub served_by_phase : (s : Session) → valid s ≡ true → counts_as_open s ≡ is_open s.phase
unfolding counts_as_open
served_by_phase s v = rw v (go s.phase)
  where
    go : (phase : Phase) → (is_open phase && true) ≡ is_open phase
    go Ready = refl
    go Pending = refl
    go Closed = refl

pub broken_not_served : (s : Session) → valid s ≡ false → counts_as_open s ≡ false
unfolding counts_as_open
broken_not_served s v = rw v (go s.phase)
  where
    go : (phase : Phase) → (is_open phase && false) ≡ false
    go Ready = refl
    go Pending = refl
    go Closed = refl

pub valid_count : (s : Session) → valid s ≡ true → s.count ≤ 65535
unfolding valid
valid_count s v = leb-true s.count 65535 (both (leb s.count 65535) (keeps_phase s s.phase) v).0
