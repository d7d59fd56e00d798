-- A fragment that was written, of a chain that it continues, is taken: its data stands behind what was there.
-- Assumes nothing.
use mathlib.Core.Path.{◌≡◌, ap, ◌∙◌}
use mathlib.Core.Bool.{Bool, true}
use Prim.Native.Nat.{ℕ, ◌+◌, ◌≤◌}
use native.Mathlib.Omega.{arith}
use borrow.Author.Tests.{le-leb}
use lib.ListN.{length}
use Rattle.octets.specs.Bytes.{Bytes}
use Rattle.octets.specs.Write.{put}
use Rattle.message_answer.specs.Message.{max_command_field}
use Rattle.message_answer.specs.Answer.{gave, require◌else◌⨾◌}
use Rattle.apdu.specs.declared.Header.{Header}
use Rattle.chain_command.specs.Apdu.{fragment_apdu, header_of, well_formed}
use Rattle.chain_command.specs.Reassembly.{possible, continues, total, reassembly_checks, taken, concluded, reassemble_command, written, reassembly_buffer}
use Rattle.chain_command.specs.declared.CommandChain.{CommandChain}
use Rattle.chain_command.proofs.WrittenApdu.{written_header, written_lc, written_data, written_last, written_well_formed}

-- where the tests pass
pub checks_pass : (c : CommandChain) (apdu : Bytes) (room : ℕ) → well_formed apdu ≡ true → possible c ≡ true → continues c (header_of apdu) ≡ true
    → total c apdu ≤ max_command_field → total c apdu ≤ room → reassembly_checks c apdu room ≡ gave tt
unfolding reassembly_checks require◌else◌⨾◌
checks_pass c apdu room formed led follows short fits =
    rw (formed, led, follows, le-leb (total c apdu) max_command_field short, le-leb (total c apdu) room fits)

module _ (c : CommandChain) (h : Header) (d : Bytes) (last : Bool) (led : possible c ≡ true) (follows : continues c h ≡ true)
    (some : 1 ≤ length d) (small : length d ≤ 255) (short : c.len + length d ≤ max_command_field) where
  passes : (room : ℕ) → c.len + length d ≤ room → reassembly_checks c (fragment_apdu last h d) room ≡ gave tt
  passes room fits =
      checks_pass c (fragment_apdu last h d) room (written_well_formed h d last some small) led
      (ap (continues c) (written_header h d last) ∙ follows)
      (omega (arith, written_lc h d last)) (omega (arith, written_lc h d last))

  pub taken_answer : (room : ℕ) → c.len + length d ≤ room → reassemble_command c (fragment_apdu last h d) room ≡ taken h (c.len + length d) last
  unfolding reassemble_command concluded
  taken_answer room fits =
      ap (concluded c (fragment_apdu last h d)) (passes room fits)
      ∙ rw (written_header h d last, written_lc h d last, written_last h d last)

  pub taken_data : (held : Bytes) → c.len + length d ≤ length held → reassembly_buffer c (fragment_apdu last h d) held ≡ put held c.len d
  unfolding reassembly_buffer written
  taken_data held fits =
      ap (written c (fragment_apdu last h d) held) (passes (length held) fits) ∙ ap (put held c.len) (written_data h d last)
