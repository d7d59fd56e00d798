-- `inv_sbox` meets its contract: the table follows its rule.
use Rattle.aes_sbox.proofs.TableRule.{inv_sbox_table}
use Rattle.aes_sbox.proofs.inv_sbox.Goals as goal

pub returns : goal.returns
returns c = inv_sbox_table
