-- Answers worked out: number, length and status word as rule 2.1 has them.
use mathlib.Core.Path.{◌≡◌, refl}
use mathlib.Core.Bool.{false}
use Rattle.std.specs.Prelude.{Ok}
use Rattle.apdu.specs.Apdu.{header, status}
use Rattle.chain_command.specs.declared.CommandPart.TheVariants.{More, Whole}
use Rattle.chain_response.specs.declared.ResponsePart.TheVariants.{More as ResponseMore, Whole as ResponseWhole}
use Rattle.capi_values.specs.Values.{given}
use Rattle.capi_values.specs.ChainingValues.{fragment_values, reassembly_values, response_fragment_values, response_reassembly_values}

-- 90 00 to all fragments of a command but the last, which gives the header
more : reassembly_values (Ok (More 255 (status 0x90 0x00))) ≡ given 0 255 0x9000
more = refl

whole : reassembly_values (Ok (Whole 257 (header 0xCB 0x3F 0xFE)))
    ≡ record { number = 0; len = 257; status = 0; le = false; header = header 0xCB 0x3F 0xFE; next = 0 }
whole = refl

-- 61 and the number to ask for
announced : response_reassembly_values (Ok (ResponseMore 256 0x93)) ≡ given 0 256 0x6193
announced = refl

-- the status word of the last fragment, SW1 first
whole_response : response_reassembly_values (Ok (ResponseWhole 300 (status 0x62 0x81))) ≡ given 0 300 0x6281
whole_response = refl

-- its length; of a response's also the index where the next one starts
fragment : fragment_values (Ok 261) ≡ given 0 261 0
fragment = refl

response_fragment : response_fragment_values (Ok (record { len = 258; next = 512 }))
    ≡ record { number = 0; len = 258; status = 0; le = false; header = header 0 0 0; next = 512 }
response_fragment = refl
