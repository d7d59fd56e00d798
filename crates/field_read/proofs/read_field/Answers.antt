-- `read_field` meets its contract: the walk from here on is the walk of the whole field.
use borrow.Author.Rules.{rules}
use mathlib.Core.Path.{◌≡◌, sym, ap, ap₂, ◌∙◌}
use Prim.Native.Nat.{ℕ, ◌-◌, ◌<◌}
use native.Mathlib.Omega.{arith}
use borrow.Author.Tests.{ltb-true, ltb-false}
use lib.ListN.{length}
use Rattle.std.specs.Prelude.{Err}
use Rattle.octets.specs.Bytes.{Bytes}
use Rattle.field_expected.specs.Wanted.{rank}
use Rattle.field_object.specs.Object.{read_object}
use Rattle.field_object.specs.Step.{index_after}
use Rattle.field_read.specs.Field.{none, walk, read_field}
use Rattle.field_object.specs.declared.DataObject.{DataObject}
use Rattle.field_read.specs.declared.Objects.{Objects}
use Rattle.field_read.specs.Reader.{moved}
use Rattle.field_read.specs.declared.reader.Reader.{Reader}
use Rattle.field_object.proofs.Inversion.{stands, later, rank_most, some_byte}
use Rattle.field_read.proofs.Walk.{walk_end, walk_object, walk_breach}
use Rattle.field_read.proofs.read_field.Goals as goal

pub loop-reader-init : goal.loop-reader-init
unfolding read_field
loop-reader-init c =
    let a = c.args in
    let e = c.new-reader.ensures in
    let d = c.default-objects.ensures in
    let no_object : c.default-objects.result ≡ none =
    λ i. record { ciphertext = d.0 i; ciphertext_len = d.1.0 i; second = d.1.1.0 i; mac_start = d.1.1.1.0 i; mac = d.1.1.1.1 i } in (
      4,
      search rules,
      search rules,
      ap (λ (r : Reader). r.field.now) e,
      ap₂ (λ (o : Objects) (i : ℕ). walk 4 a.wanted a.field.now o 0 i) no_object (ap (λ (r : Reader). r.at) e),
    )

pub returns-in_default : goal.returns-in_default
returns-in_default c =
    let a = c.args in
    let L = c.loop-reader in
    let xs = a.field.now in
    let read = ap (λ (ys : Bytes). read_object a.wanted L.place ys L.reader.at) (sym L.invariant.3) ∙ sym c.next-read.ensures.read ∙ c.unwrap_err.ensures in
    let more : L.reader.at < length xs = omega (arith, ap length L.invariant.3, ltb-true _ _ (sym c.has_more.ensures ∙ c.loop-reader-test.true)) in
    ap Err c.from.ensures ∙ sym (walk_breach a.wanted xs L.objects L.place L.reader.at L.invariant.0 _ (omega arith) more read) ∙ L.invariant.4

pub noted-objects-requires : goal.noted-objects-requires
noted-objects-requires c =
    let a = c.args in
    let L = c.loop-reader in
    let s = stands a.wanted L.place L.reader.field.now L.reader.at _ (sym c.next-read.ensures.read ∙ c.in-Ok.is) in
    omega (
      arith,
      some_byte a.wanted _ s.n s.fit,
      ap (λ (d : DataObject). d.len) s.same,
      ap (λ (d : DataObject). d.value) s.same,
      ap (λ (d : DataObject). d.next) s.same,
    )

pub loop-reader-smaller : goal.loop-reader-smaller
unfolding index_after
loop-reader-smaller c =
    let a = c.args in
    let L = c.loop-reader in
    let s = stands a.wanted L.place L.reader.field.now L.reader.at _ (sym c.next-read.ensures.read ∙ c.in-Ok.is) in
    omega (
      arith,
      ap (λ (r : Reader). r.at) (c.next-read.ensures.reader ∙ ap (moved L.reader) c.in-Ok.is),
      ap (λ (d : DataObject). d.next) s.same,
      s.inside,
      ap length L.invariant.3,
    )

pub loop-reader-preserved : goal.loop-reader-preserved
unfolding index_after
loop-reader-preserved c =
    let a = c.args in
    let L = c.loop-reader in
    let xs = a.field.now in
    let k = L.invariant.0 in
    let d = c.in-Ok.object in
    let after_next = c.next-read.ensures.reader ∙ ap (moved L.reader) c.in-Ok.is in
    let read = ap (λ (ys : Bytes). read_object a.wanted L.place ys L.reader.at) (sym L.invariant.3) ∙ sym c.next-read.ensures.read ∙ c.in-Ok.is in
    let more : L.reader.at < length xs = omega (arith, ap length L.invariant.3, ltb-true _ _ (sym c.has_more.ensures ∙ c.loop-reader-test.true)) in
    let s = stands a.wanted L.place xs L.reader.at _ read in
    let place = c.rank-place.ensures in
    let after : L.place < rank a.wanted.second d.tag =
    omega (arith, later a.wanted L.place _ s.ok, ap (λ (x : DataObject). rank a.wanted.second x.tag) s.same) in (
      k - 1,
      omega (arith, place, after),
      omega (arith, place, rank_most a.wanted.second d.tag),
      ap (λ (r : Reader). r.field.now) after_next ∙ L.invariant.3,
      ap (λ (r : Reader). walk (k - 1) a.wanted xs c.noted-objects.result c.rank-place.result r.at) after_next
          ∙ ap₂ (λ (o : Objects) (r : ℕ). walk (k - 1) a.wanted xs o r d.next) c.noted-objects.ensures place
          ∙ sym (walk_object a.wanted xs L.objects L.place L.reader.at k d (omega arith) more read)
          ∙ L.invariant.4,
    )

pub returns : goal.returns
returns c =
    let a = c.args in
    let L = c.loop-reader in
    c.ended.ensures ∙ sym (walk_end a.wanted a.field.now L.objects L.place L.reader.at L.invariant.0 (omega (arith, ap length L.invariant.3, ltb-false _ _ (sym c.has_more.ensures ∙ c.loop-reader-test.false)))) ∙ L.invariant.4
