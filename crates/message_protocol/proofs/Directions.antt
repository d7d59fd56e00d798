-- What demand 3 asks of the two directions: a MAC input begins with the chaining value, and encrypted data is whole blocks that can be decrypted.
use mathlib.Core.Path.{◌≡◌, refl}
use mathlib.Core.List.{append_assoc}
use Prim.Native.Nat.{ℕ, ◌<◌}
use native.Mathlib.Omega.{arith}
use lib.ListN.{length, drop, length-drop}
use Rattle.octets.specs.Bytes.{Bytes}
use Rattle.octets.proofs.ByteStrings.{bytes_cons, bytes_drop}
use Rattle.octets_numbers.specs.BigEndian.{big_endian}
use Rattle.octets_numbers.proofs.BigEndian.{length_big_endian, big_endian_bytes}
use Rattle.field_size.specs.Lengths.{ciphertext_length}
use Rattle.field_laws.specs.Written.{WholeBlocks}
use Rattle.field_laws.proofs.EncryptedBlocks.{encrypted_blocks}
use Rattle.session_suite.specs.StoredKeys.{Keys}
use Rattle.message_mac.specs.MacInput.{command_mac_input, response_mac_input}
use Rattle.message_ciphers.specs.Ciphers.{Ciphers, Laws, IsKey, IsCounter}
use Rattle.message_counter.specs.Counter.{command_counter, response_counter}
use Rattle.message_exchange.proofs.Channel.{Lawful}
use Rattle.message_protocol.specs.Command.{command_input}
use Rattle.message_protocol.specs.Transcript.{chaining, commands, responses}
use Rattle.message_protocol.proofs.ChainingValues.{chaining_length}

-- ---- counters

pub command_counter_is : (i : ℕ) → IsCounter (command_counter i)
unfolding command_counter
command_counter_is i = record { bytes = big_endian_bytes 16 i; size = length_big_endian 16 i }

pub response_counter_is : (i : ℕ) → IsCounter (response_counter i)
unfolding response_counter command_counter
response_counter_is i =
    record {
      bytes = bytes_cons 0x80 (drop 1 (big_endian 16 i)) (omega arith) (bytes_drop 1 (big_endian 16 i) (big_endian_bytes 16 i));
      size = omega (arith, length-drop 1 (big_endian 16 i), length_big_endian 16 i);
    }

-- ---- encrypted data

whole_blocks : (n : ℕ) (c : Bytes) → length c ≡ ciphertext_length n → n < 65504 → WholeBlocks 65519 c
whole_blocks n c e h = let b = encrypted_blocks 4094 n c e h in (b.0, omega (arith, b.1))

-- ---- the directions

module _ (C : Ciphers) (K : Keys) (L : Laws C) (enc-key : IsKey K.enc) where
  pub command_lawful : IsKey K.mac → Lawful (commands C K) (chaining C K.mac) (λ place c. C.decrypt K.enc (command_counter place) c)
  unfolding command_input command_mac_input
  command_lawful mac-key =
      record {
        begins = λ log h covered. (_, append_assoc (chaining C K.mac log) _ covered);
        first_length = λ log. chaining_length C K.mac L mac-key log;
        blocks = λ place d y short.
            whole_blocks (length d) (C.encrypt K.enc (command_counter place) d)
            (L.encrypt_length K.enc (command_counter place) d enc-key (command_counter_is place) y) short;
        decrypt_encrypt = λ place d y. L.decrypt_encrypt K.enc (command_counter place) d enc-key (command_counter_is place) y;
      }

  pub response_lawful : IsKey K.rmac → Lawful (responses C K) (chaining C K.rmac) (λ place c. C.decrypt K.enc (response_counter place) c)
  unfolding response_mac_input
  response_lawful mac-key =
      record {
        begins = λ log h covered. (covered, refl);
        first_length = λ log. chaining_length C K.rmac L mac-key log;
        blocks = λ place d y short.
            whole_blocks (length d) (C.encrypt K.enc (response_counter place) d)
            (L.encrypt_length K.enc (response_counter place) d enc-key (response_counter_is place) y) short;
        decrypt_encrypt = λ place d y. L.decrypt_encrypt K.enc (response_counter place) d enc-key (response_counter_is place) y;
      }
