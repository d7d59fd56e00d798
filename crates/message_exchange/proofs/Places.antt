-- Where an input stands in a log: right after the part whose first bytes it begins with, or at another place that begins the same.
use mathlib.Core.Path.{◌≡◌, refl, sym, ap, ◌∙◌}
use mathlib.Core.Logic.{◌⊎◌, inl, inr}
use mathlib.Core.List.Memᴰ
use mathlib.Core.List.{List, [], ◌∷◌, ◌++◌, map, append-nil, Memᴰ, List-discrete}
use native.Mathlib.Decide.{ℕ_discrete}
use lib.ListN.{length, take, drop, length-map}
use lib.Seq.{take_at, drop_at, append_snoc}
use Rattle.octets.specs.Bytes.{Bytes}
use Rattle.message_exchange.specs.Exchange.{Entry, Log, messages, inputs}

-- ---- lists

pub append_cut : {A : Type 0} (s t s' t' : List A) → s ++ t ≡ s' ++ t' → length s ≡ length s' → (s ≡ s') × (t ≡ t')
append_cut s t s' t' e l = (
  sym (take_at s t (length s') l) ∙ ap (take (length s')) e ∙ take_at s' t' (length s') refl,
  sym (drop_at s t (length s') l) ∙ ap (drop (length s')) e ∙ drop_at s' t' (length s') refl,
)

map_append : {A B : Type 0} (f : A → B) (s t : List A) → map f (s ++ t) ≡ map f s ++ map f t
map_append f [] t = refl
map_append f (x ∷ s) t = ap (f x ∷◌) (map_append f s t)

pub inputs_append : {H : Type 0} (s t : Log H) → inputs (s ++ t) ≡ inputs s ++ inputs t
inputs_append s t = map_append (λ e. e.input) s t

pub messages_append : {H : Type 0} (s t : Log H) → messages (s ++ t) ≡ messages s ++ messages t
messages_append s t = map_append (λ e. e.message) s t

pub length_messages : {H : Type 0} (s : Log H) → length (messages s) ≡ length s
length_messages s = length-map s (λ e. e.message)

-- whether an input is one of those
pub member : (i : Bytes) (l : List Bytes) → Memᴰ i l ⊎ (Memᴰ i l → ⊥)
member i [] = inr Memᴰ.not-nil
member i (x ∷ l) = go (List-discrete ℕ_discrete i x) (member i l)
  where
    go : Dec (i ≡ x) → Memᴰ i l ⊎ (Memᴰ i l → ⊥) → Memᴰ i (x ∷ l) ⊎ (Memᴰ i (x ∷ l) → ⊥)
    go (yes e) m = inl (Memᴰ.head e)
    go (no n) (inl m) = inl (Memᴰ.tail m)
    go (no n) (inr m) = inr (λ h. elim (Memᴰ.cases_cons h) [ inl e ↦ n e | inr t ↦ m t ])

-- ---- places

module _ {H : Type 0} (Made : Log H → Entry H → Type 0) where
  -- each entry of a log was made so after those before it
  abbrev pub AllMade : Log H → Log H → Type 0
  AllMade before [] = Unit {0}
  AllMade before (x ∷ log) = Made before x × AllMade (before ++ x ∷ []) log

  pub all_made_snoc : (before log : Log H) (e : Entry H) → AllMade before log → Made (before ++ log) e → AllMade before (log ++ e ∷ [])
  all_made_snoc before [] e c m = (rw append-nil at m, tt)
  all_made_snoc before (x ∷ log) e c m = (c.0, all_made_snoc (before ++ x ∷ []) log e c.1 (rw append_snoc m))

  record Found (log : Log H) (i : Bytes) : Type 0 where
    left : Log H
    entry : Entry H
    right : Log H
    whole : left ++ entry ∷ right ≡ log
    made : Made left entry
    is : entry.input ≡ i

  find : (before log : Log H) (i : Bytes) → AllMade before log → Memᴰ i (inputs log) → Found (before ++ log) i
  find before [] i c m = absurd (Memᴰ.not-nil m)
  find before (x ∷ log) i c m = go (find (before ++ x ∷ []) log i c.1) (Memᴰ.cases_cons m)
    where
      go : (Memᴰ i (inputs log) → Found (before ++ x ∷ [] ++ log) i) → (i ≡ x.input) ⊎ Memᴰ i (inputs log) → Found (before ++ x ∷ log) i
      go below (inl e) = record { left = before; entry = x; right = log; whole = refl; made = c.0; is = sym e }
      go below (inr t) = rw append_snoc at (below t)

  -- the entry right after A, where zs stands after it
  pub record Next (A zs : Log H) (i : Bytes) : Type 0 where
    pub entry : Entry H
    pub more : Log H
    pub is : zs ≡ entry ∷ more
    pub made : Made A entry
    pub same : entry.input ≡ i

-- `first`: what the input of the entry after a log begins with
module _ {H : Type 0} (first : Log H → Bytes) where
  -- a place in the log W, other than the one after A, whose input begins as that one's does
  pub record Repeated (A W : Log H) : Type 0 where
    pub left : Log H
    pub entry : Entry H
    pub right : Log H
    pub whole : left ++ entry ∷ right ≡ W
    pub elsewhere : length left ≡ length A → ⊥
    pub same : first left ≡ first A

  module _ (Made : Log H → Entry H → Type 0) (begins : (L : Log H) (x : Entry H) → Made L x → (rest : Bytes) × (x.input ≡ first L ++ rest))
      (sized : (L M : Log H) → length (first L) ≡ length (first M)) where
    pub place : (A zs W : Log H) (rest : Bytes) → A ++ zs ≡ W → AllMade Made [] W → Memᴰ (first A ++ rest) (inputs W)
        → Next Made A zs (first A ++ rest) ⊎ Repeated A W
    place A zs W rest a c m = go (find Made [] W (first A ++ rest) c m)
      where
        go : Found Made W (first A ++ rest) → Next Made A zs (first A ++ rest) ⊎ Repeated A W
        go f = by (ℕ_discrete (length f.left) (length A))
          where
            by : Dec (length f.left ≡ length A) → Next Made A zs (first A ++ rest) ⊎ Repeated A W
            by (yes e) =
                let c : (f.left ≡ A) × (f.entry ∷ f.right ≡ zs) = append_cut f.left (f.entry ∷ f.right) A zs (f.whole ∙ sym a) e in
                inl (record { entry = f.entry; more = f.right; is = sym c.1; made = rw c.0 at f.made; same = f.is })
            by (no n) =
                let b = begins f.left f.entry f.made in
                let e : first f.left ≡ first A = (append_cut (first f.left) b.0 (first A) rest (sym b.1 ∙ f.is) (sized f.left A)).0 in
                inr (record { left = f.left; entry = f.entry; right = f.right; whole = f.whole; elsewhere = n; same = e })
