-- A chain as a number: the number of a chain that a call leaves stands for that chain. Assumes nothing.
use mathlib.Core.Path.{◌≡◌, refl}
use mathlib.Core.Bool.{Bool, true, false, ◌&&◌}
use Prim.Native.Nat.{ℕ, ◌+◌, ◌*◌, ◌/◌, ◌%◌, ◌<◌, ◌≤◌}
use native.Mathlib.Omega.{arith}
use borrow.Author.Tests.{eqb-true, leb-true}
use lib.Dec.{eqb, leb}
use Rattle.octets.specs.Bytes.{Bytes}
use Rattle.std.specs.Prelude.{if◌then◌else◌}
use Rattle.apdu.specs.Apdu.{header}
use Rattle.chain_command.specs.Reassembly.{possible, reassemble_command}
use Rattle.chain_command.specs.declared.CommandChain.{CommandChain}
use Rattle.chain_command.proofs.Theorems.{leaves}
use Rattle.capi_reassemble_command.specs.ChainNumbers.{chain_number, chain_of}

possible_short : (c : CommandChain) → possible c ≡ true → c.len ≤ 2066
unfolding possible
possible_short c = go (eqb c.len 0) refl
  where
    go : (t : Bool) → eqb c.len 0 ≡ t → (if t then eqb c.header.ins 0 && eqb c.header.p1 0 && eqb c.header.p2 0 else leb c.len 2066) ≡ true → c.len ≤ 2066
    go true e h = omega (arith, eqb-true c.len 0 e)
    go false e h = leb-true c.len 2066 h

pub left_short : (c : CommandChain) (apdu : Bytes) (room : ℕ) → (reassemble_command c apdu room).next.len ≤ 2066
left_short c apdu room = possible_short (reassemble_command c apdu room).next (leaves c apdu room)

pub chain_back : (c : CommandChain) → c.header.ins < 256 → c.header.p1 < 256 → c.header.p2 < 256 → chain_of (chain_number c) ≡ c
unfolding chain_of chain_number
chain_back c i p q = λ k. record { len = len k; header = header (ins k) (p1 k) (p2 k) }
  where
    n : ℕ
    n = c.len * 16777216 + c.header.ins * 65536 + c.header.p1 * 256 + c.header.p2

    len : n / 16777216 ≡ c.len
    len = omega arith

    ins : n / 65536 % 256 ≡ c.header.ins
    ins = omega arith

    p1 : n / 256 % 256 ≡ c.header.p1
    p1 = omega arith

    p2 : n % 256 ≡ c.header.p2
    p2 = omega arith
