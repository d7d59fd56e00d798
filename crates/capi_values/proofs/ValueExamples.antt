-- Answers worked out: number, length and status word as rule 2.1 has them.
use mathlib.Core.Path.{◌≡◌, refl}
use mathlib.Core.Bool.{true}
use Rattle.std.specs.Prelude.{Ok, Err}
use Rattle.apdu.specs.Apdu.{status}
use Rattle.refusal.specs.declared.Refusal.TheVariants.{BufferTooSmall, BadMac, Unprotected}
use Rattle.capi_values.specs.Values.{given, refusal_values, wrap_values, command_values, response_values}

-- a refusal has length 0 and no status
bad_mac : refusal_values BadMac ≡ given 9 0 0
bad_mac = refl

refused_wrap : wrap_values (Err BadMac) ≡ given 9 0 0
refused_wrap = refl

-- but for the length needed at 6, and the status at 13
too_small : refusal_values (BufferTooSmall 29) ≡ given 6 29 0
too_small = refl

unprotected : refusal_values (Unprotected (status 0x6A 0x82)) ≡ given 13 0 0x6A82
unprotected = refl

-- SW1 is the high byte
accepted : response_values (Ok (record { len = 5; status = status 0x62 0x81 })) ≡ given 0 5 0x6281
accepted = refl

command : (command_values (Ok (record { len = 5; le = true }))).le ≡ true
command = refl
