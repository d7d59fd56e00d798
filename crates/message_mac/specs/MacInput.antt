-- SP 800-73-4 Part 2, 4.2.3 and 4.2.5: what the MAC of a command and of a response is computed over. Assumes nothing.
use Rattle.std.specs.Prelude.{◌∷◌, ◌++◌}
use Rattle.octets.specs.Bytes.{Bytes, zeros}
use Rattle.apdu.specs.declared.Header.{Header}

-- CLA '0C', INS, P1, P2, padded to a block
unfoldable pub encoded_header : Header → Bytes
encoded_header h = 0x0C ∷ h.ins ∷ h.p1 ∷ h.p2 ∷ 0x80 ∷ zeros 11

-- the MAC chaining value, the encoded header, and the field's bytes before '8E'
unfoldable pub command_mac_input : Bytes → Header → Bytes → Bytes
command_mac_input chaining h covered = chaining ++ encoded_header h ++ covered

unfoldable pub response_mac_input : Bytes → Bytes → Bytes
response_mac_input chaining covered = chaining ++ covered
