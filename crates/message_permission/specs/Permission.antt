-- Rules 5.8 and 5.9: which commands and statuses are permitted, and what their fields must hold.
use Rattle.std.specs.Prelude.{Bool, ◌&&◌, ◌||◌, not, ℕ, eqb, ltb, if◌then◌else◌}
use Rattle.field_expected.specs.declared.Need.{Need}
use Rattle.field_expected.specs.declared.Need.TheVariants.{Must, May, MustNot}
use Rattle.field_expected.specs.declared.Second.TheVariants.{Le, Status}
use Rattle.field_expected.specs.declared.Wanted.{Wanted}
use Rattle.field_expected.specs.Wanted.{suits}
use Rattle.message_answer.specs.Message.{CommandHeader, StatusWord, max_command_ciphertext, max_response_ciphertext, more_sw1}

-- INS of VERIFY, CHANGE REFERENCE DATA, GET DATA and GENERAL AUTHENTICATE
abbrev pub verify : ℕ
verify = 0x20

abbrev pub change_reference_data : ℕ
change_reference_data = 0x24

abbrev pub get_data : ℕ
get_data = 0xCB

abbrev pub general_authenticate : ℕ
general_authenticate = 0x87

unfoldable pub ins_permitted : ℕ → Bool
ins_permitted ins = eqb ins verify || eqb ins change_reference_data || eqb ins get_data || eqb ins general_authenticate

-- 20 and 24 without Le, CB with Le, 87 with or without
unfoldable pub le_need : ℕ → Need
le_need ins = if eqb ins get_data then Must else (if eqb ins general_authenticate then May else MustNot)

-- only 20 may lack data
unfoldable pub data_need : ℕ → Need
data_need ins = if eqb ins verify then May else Must

-- a command with that many bytes of data
unfoldable pub command_permitted : CommandHeader → ℕ → Bool
command_permitted h n = ins_permitted h.ins && suits (data_need h.ins) (ltb 0 n) && suits (le_need h.ins) h.le

-- a card may neither wrap nor fragment a response with SW1 '61'
unfoldable pub status_permitted : StatusWord → Bool
status_permitted sw = not (eqb sw.sw1 more_sw1)

-- what the fields are read for
unfoldable pub command_wanted : ℕ → Wanted
command_wanted ins = record { «data» = data_need ins; limit = max_command_ciphertext; second = Le (le_need ins) }

unfoldable pub response_wanted : StatusWord → Wanted
response_wanted sw = record { «data» = May; limit = max_response_ciphertext; second = Status sw.sw1 sw.sw2 }
