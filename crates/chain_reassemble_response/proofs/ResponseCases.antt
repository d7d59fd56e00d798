-- What holds of a fragment that passed its tests, test by test.
-- Assumes nothing.
use mathlib.Core.Path.{◌≡◌}
use mathlib.Core.Bool.{Bool, true, ◌&&◌, ◌||◌, not}
use Prim.Native.Nat.{ℕ, ◌≤◌}
use borrow.Author.Tests.{leb-true}
use lib.Dec.{leb}
use lib.ListN.{length}
use Rattle.octets.specs.Bytes.{Bytes}
use Rattle.octets.proofs.Tests.{both}
use Rattle.message_answer.specs.Answer.{gave}
use Rattle.message_answer.proofs.Required.{require_gave}
use Rattle.chain_response.specs.Reassembly.{data_length, is_more, well_formed, possible, total, reassembly_checks}
use Rattle.chain_response.specs.declared.ResponseChain.{ResponseChain}

module _ (bytes : Bytes) (shaped : well_formed bytes ≡ true) where
  abbrev status : Bool
  status = leb 2 (length bytes)

  abbrev with-data : Bool
  with-data = not (is_more bytes) || leb 1 (data_length bytes)

  -- a whole status word
  pub has_status : 2 ≤ length bytes
  unfolding well_formed
  has_status = leb-true 2 (length bytes) (both status with-data (both (status && with-data) (leb (data_length bytes) 256) shaped).0).0

  pub short_data : data_length bytes ≤ 256
  unfolding well_formed
  short_data = leb-true (data_length bytes) 256 (both (status && with-data) (leb (data_length bytes) 256) shaped).1

pub possible_short : (c : ResponseChain) → possible c ≡ true → c.len ≤ 16403
unfolding possible
possible_short c e = leb-true c.len 16403 e

-- it has a whole status word, and there is room for its data
pub may_take : (c : ResponseChain) (bytes : Bytes) (room : ℕ) → reassembly_checks c bytes room ≡ gave tt → (2 ≤ length bytes) × (total c bytes ≤ room)
unfolding reassembly_checks
may_take c bytes room e =
    let shaped = require_gave _ _ _ tt e in
    let state = require_gave _ _ _ tt shaped.1 in
    let short = require_gave _ _ _ tt state.1 in
    let fits = require_gave _ _ _ tt short.1 in
    (has_status bytes shaped.0, leb-true (total c bytes) room fits.0)
