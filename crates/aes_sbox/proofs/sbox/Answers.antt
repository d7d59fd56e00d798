-- `sbox` meets its contract: the table follows its rule.
use Rattle.aes_sbox.proofs.TableRule.{sbox_table}
use Rattle.aes_sbox.proofs.sbox.Goals as goal

pub returns : goal.returns
returns c = sbox_table
