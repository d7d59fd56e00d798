-- ISO/IEC 7816-4: the header of a command and the status word of a response, made of their bytes, and the status word as
-- a number.
use Rattle.std.specs.Prelude.{ℕ, ◌+◌, ◌*◌, ◌/◌, ◌%◌}
use Rattle.apdu.specs.declared.Header.{Header}
use Rattle.apdu.specs.declared.StatusWord.{StatusWord}

abbrev pub header : ℕ → ℕ → ℕ → Header
header ins p1 p2 = record { ins = ins; p1 = p1; p2 = p2 }

abbrev pub status : ℕ → ℕ → StatusWord
status sw1 sw2 = record { sw1 = sw1; sw2 = sw2 }

-- SW1 is the high byte
abbrev pub status_word : StatusWord → ℕ
status_word sw = sw.sw1 * 256 + sw.sw2

-- the status word that a number stands for
abbrev pub status_of : ℕ → StatusWord
status_of n = status (n / 256) (n % 256)
