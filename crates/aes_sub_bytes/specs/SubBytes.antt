-- FIPS 197, 5.1.1, 5.3.2 and 5.2: SubBytes, InvSubBytes and SubWord.
use Rattle.std.specs.Prelude.{get_or}
use Rattle.aes_sbox.specs.SBox.{s_box, inv_s_box}
use Rattle.aes_state.specs.State.{Word, State, at, word, state}

-- 5.1.1: s'_(r,c) = SBox(s_(r,c))
abbrev pub sub_bytes : State → State
sub_bytes s = state (λ r c. s_box (at s r c))

-- 5.3.2: s'_(r,c) = InvSBox(s_(r,c))
abbrev pub inv_sub_bytes : State → State
inv_sub_bytes s = state (λ r c. inv_s_box (at s r c))

-- 5.2: SubWord, the S-box on each byte of a word
abbrev pub sub_word : Word → Word
sub_word a = word (λ r. s_box (get_or a r 0))
