-- `read_object` meets its contract: one case for each first breach.
use mathlib.Core.Path.{sym, ap, ◌∙◌}
use Prim.Native.Nat.{◌+◌}
use native.Mathlib.Omega.{arith}
use Rattle.std.specs.Prelude.{Err}
use Rattle.field_ber_length.proofs.LengthForms.{read_within}
use Rattle.field_object.proofs.ObjectCases.{bad_tag, bad_form, long_form, bad_size, past_end, bad_value, whole_object}
use Rattle.field_object.proofs.read_object.Goals as goal

pub returns-then-not-allowed : goal.returns-then-not-allowed
returns-then-not-allowed c =
    let a = c.args in
    ap Err c.new.ensures ∙ sym (bad_tag a.wanted a.after a.bytes.now a.at (sym c.allowed.ensures ∙ c.if-not-allowed.true))

pub returns-in_default : goal.returns-in_default
returns-in_default c =
    let a = c.args in
    let ok = sym c.allowed.ensures ∙ c.if-not-allowed.false in
    ap Err c.new-in_default.ensures
    ∙ sym (bad_form a.wanted a.after a.bytes.now a.at ok (sym c.read_length.ensures ∙ c.in_default.is))

pub returns-then-not-is_shortest : goal.returns-then-not-is_shortest
returns-then-not-is_shortest c =
    let a = c.args in
    let ok = sym c.allowed.ensures ∙ c.if-not-allowed.false in
    let read = sym c.read_length.ensures ∙ c.in-Some.is in
    ap Err c.new-then-not-is_shortest.ensures
    ∙ sym (long_form a.wanted a.after a.bytes.now a.at ok _ _ read (sym c.is_shortest.ensures ∙ c.if-not-is_shortest.true))

pub returns-then-not-right_size : goal.returns-then-not-right_size
returns-then-not-right_size c =
    let a = c.args in
    let ok = sym c.allowed.ensures ∙ c.if-not-allowed.false in
    let read = sym c.read_length.ensures ∙ c.in-Some.is in
    let form = sym c.is_shortest.ensures ∙ c.if-not-is_shortest.false in
    ap Err c.new-then-not-right_size.ensures
    ∙ sym (bad_size a.wanted a.after a.bytes.now a.at ok _ _ read form (sym c.right_size.ensures ∙ c.if-not-right_size.true))

pub overflow_add-value : goal.overflow_add-value
overflow_add-value c =
    let a = c.args in omega (arith, read_within a.bytes.now (a.at + 1) _ _ (sym c.read_length.ensures ∙ c.in-Some.is))

pub overflow_sub-bytes : goal.overflow_sub-bytes
overflow_sub-bytes c =
    let a = c.args in omega (arith, read_within a.bytes.now (a.at + 1) _ _ (sym c.read_length.ensures ∙ c.in-Some.is))

pub returns-then-bytes-value : goal.returns-then-bytes-value
returns-then-bytes-value c =
    let a = c.args in
    let ok = sym c.allowed.ensures ∙ c.if-not-allowed.false in
    let read = sym c.read_length.ensures ∙ c.in-Some.is in
    let form = sym c.is_shortest.ensures ∙ c.if-not-is_shortest.false in
    let fit = sym c.right_size.ensures ∙ c.if-not-right_size.false in
    let inside = read_within a.bytes.now (a.at + 1) _ _ read in
    ap Err c.new-then-bytes-value.ensures
    ∙ sym (past_end a.wanted a.after a.bytes.now a.at ok _ _ read form fit (omega (arith, inside)))

pub returns-then-not-right_value : goal.returns-then-not-right_value
returns-then-not-right_value c =
    let a = c.args in
    let ok = sym c.allowed.ensures ∙ c.if-not-allowed.false in
    let read = sym c.read_length.ensures ∙ c.in-Some.is in
    let form = sym c.is_shortest.ensures ∙ c.if-not-is_shortest.false in
    let fit = sym c.right_size.ensures ∙ c.if-not-right_size.false in
    let inside = read_within a.bytes.now (a.at + 1) _ _ read in
    ap Err c.new-then-not-right_value.ensures
    ∙ sym (bad_value a.wanted a.after a.bytes.now a.at ok _ _ read form fit (omega (arith, inside)) (sym c.right_value.ensures ∙ c.if-not-right_value.true))

pub overflow_add-result : goal.overflow_add-result
overflow_add-result c =
    let a = c.args in omega (arith, read_within a.bytes.now (a.at + 1) _ _ (sym c.read_length.ensures ∙ c.in-Some.is))

pub returns : goal.returns
returns c =
    let a = c.args in
    let ok = sym c.allowed.ensures ∙ c.if-not-allowed.false in
    let read = sym c.read_length.ensures ∙ c.in-Some.is in
    let form = sym c.is_shortest.ensures ∙ c.if-not-is_shortest.false in
    let fit = sym c.right_size.ensures ∙ c.if-not-right_size.false in
    let inside = read_within a.bytes.now (a.at + 1) _ _ read in
    sym (whole_object a.wanted a.after a.bytes.now a.at ok _ _ read form fit (omega (arith, inside)) (sym c.right_value.ensures ∙ c.if-not-right_value.false))
