-- `next_word` meets its contract: a word of the key, or one case for each line of the pseudocode.
use mathlib.Core.Path.{ap, ap₂, ◌∙◌}
use mathlib.Core.List.{[]}
use Prim.Native.Nat.{◌-◌}
use native.Mathlib.Omega.{arith}
use lib.ListN.{get_or}
use Rattle.aes_state.specs.State.{add_word}
use Rattle.aes_sub_bytes.specs.SubBytes.{sub_word}
use Rattle.aes_sbox.specs.SBox.{s_box}
use Rattle.aes_key_expansion.proofs.Schedule.{quotient_least, quotient_most, temp_first, temp_fourth, temp_other, temp_short, next_key, next_sum}
use Rattle.aes_key_expansion.proofs.next_word.Goals as goal
use Rattle.aes_key_expansion.proofs.next_word.Goals.{then-n-gt6+else-m-eq4, else-n-gt6}

pub returns-then-i-n : goal.returns-then-i-n
returns-then-i-n c =
    let a = c.args in c.key_word.ensures ∙ next_key a.n a.key.now a.w.now a.i c.if-i-n.true

pub round_constant-requires : goal.round_constant-requires
round_constant-requires c =
    let h = c.requires.le_n in
    omega (arith, quotient_least h.0 c.if-i-n.false, quotient_most h.0 h.2)

pub returns-then-m-eq0 : goal.returns-then-m-eq0
returns-then-m-eq0 c =
    let a = c.args in
    let t = get_or a.w.now (a.i - 1) [] in
    c.add_word.ensures
    ∙ ap (add_word (get_or a.w.now (a.i - a.n) []))
    (c.add_word-temp.ensures
    ∙ ap₂ add_word (c.sub_word.ensures s_box c.requires.table ∙ ap sub_word c.rot_word.ensures) c.round_constant.ensures
    ∙ temp_first a.n a.i t c.if-m-eq0.true)
    ∙ next_sum a.n a.key.now a.w.now a.i c.if-i-n.false

pub returns-then-m-eq4 : goal.returns-then-m-eq4
returns-then-m-eq4 c =
    let a = c.args in
    let t = get_or a.w.now (a.i - 1) [] in
    c.add_word-then-m-eq4.ensures
    ∙ ap (add_word (get_or a.w.now (a.i - a.n) []))
    (c.sub_word-then-m-eq4.ensures s_box c.requires.table ∙ temp_fourth a.n a.i t c.if-m-eq0.false c.if-n-gt6.true c.if-m-eq4.true)
    ∙ next_sum a.n a.key.now a.w.now a.i c.if-i-n.false

pub returns : goal.returns
returns c =
    let a = c.args in
    let t = get_or a.w.now (a.i - 1) [] in
    c.add_word-2.ensures
    ∙ ap (add_word (get_or a.w.now (a.i - a.n) []))
    (elim c.if-n-gt6.branch [
      | then-n-gt6+else-m-eq4 w ↦ temp_other a.n a.i t c.if-m-eq0.false w.if-n-gt6.true w.if-m-eq4.false
      | else-n-gt6 w ↦ temp_short a.n a.i t c.if-m-eq0.false w.if-n-gt6.false
    ])
    ∙ next_sum a.n a.key.now a.w.now a.i c.if-i-n.false
