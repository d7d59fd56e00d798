-- Rules 7.2 and 7.4: the APDUs that carry a command field ("pieces" is another word for them): CLA, the header, Lc and the data, and on
-- the last of them one more byte.
use Rattle.std.specs.Prelude.{Bool, ◌&&◌, ◌||◌, [], ◌∷◌, ◌++◌, ℕ, ◌+◌, eqb, leb, length, get_or, take, drop}
use Rattle.octets.specs.Bytes.{Bytes}
use Rattle.std.specs.Prelude.{if◌then◌else◌}
use Rattle.apdu.specs.declared.Header.{Header}
use Rattle.apdu.specs.Apdu.{header}

-- CLA of secure messaging, and the same with the bit of command chaining
abbrev pub last_cla : ℕ
last_cla = 0x0C

abbrev pub chained_cla : ℕ
chained_cla = 0x1C

-- ---- written

-- with Lc, the length of the data
abbrev pub command_apdu : ℕ → Header → Bytes → Bytes
command_apdu cla h d = cla ∷ h.ins ∷ h.p1 ∷ h.p2 ∷ length d ∷ d

unfoldable pub fragment_apdu : Bool → Header → Bytes → Bytes
fragment_apdu last h d = if last then command_apdu last_cla h d ++ 0x00 ∷ [] else command_apdu chained_cla h d

-- ---- read

abbrev pub cla : Bytes → ℕ
cla apdu = get_or apdu 0 0

abbrev pub header_of : Bytes → Header
header_of apdu = header (get_or apdu 1 0) (get_or apdu 2 0) (get_or apdu 3 0)

abbrev pub lc : Bytes → ℕ
lc apdu = get_or apdu 4 0

abbrev pub data_of : Bytes → Bytes
data_of apdu = take (lc apdu) (drop 5 apdu)

-- the two shapes, each as long as its Lc says
unfoldable pub is_chained : Bytes → Bool
is_chained apdu = eqb (cla apdu) chained_cla && eqb (length apdu) (5 + lc apdu)

unfoldable pub is_last : Bytes → Bool
is_last apdu = eqb (cla apdu) last_cla && eqb (length apdu) (6 + lc apdu) && eqb (get_or apdu (5 + lc apdu) 0) 0x00

-- "only these exact shapes, Lc 1 to 255"
unfoldable pub well_formed : Bytes → Bool
well_formed apdu = leb 1 (lc apdu) && leb (lc apdu) 255 && (is_chained apdu || is_last apdu)
