-- What a caller of CMAC may rely on, over any cipher whose blocks have 16 bytes, and of AES.
use mathlib.Core.Path.{◌≡◌}
use mathlib.Core.List.{List, ◌++◌}
use Prim.Native.Nat.{ℕ}
use lib.ListN.{length}
use Rattle.octets.specs.Bytes.{Bytes, IsBytes}
use Rattle.aes_key_expansion.specs.declared.KeySize.{KeySize}
use Rattle.aes.specs.Aes.{ciph}
use Rattle.aes.proofs.Block.{length_ciph}
use Rattle.mode_cmac.specs.declared.Cmac.{Cmac}
use Rattle.mode_cmac.specs.Subkeys.{Cipher}
use Rattle.mode_cmac.specs.Cmac.{cmac}
use Rattle.mode_cmac.specs.Running.{start, absorb, finish}
use Rattle.mode_cmac.proofs.BlockByBlock as blocks
use Rattle.mode_cmac.proofs.WholeMessage as whole

-- a message that is absorbed and finished gives its CMAC
pub cmac_running : (c : Cipher) → ((x : Bytes) → length (c x) ≡ 16) → (m : Bytes) → finish c (absorb c start m) ≡ cmac c m
cmac_running = whole.cmac_running

-- however the message is cut
pub absorb_append : (c : Cipher) (s : Cmac) (a b : Bytes) → absorb c s (a ++ b) ≡ absorb c (absorb c s a) b
absorb_append = blocks.absorb_append

pub length_cmac : (c : Cipher) → ((x : Bytes) → length (c x) ≡ 16) → (m : Bytes) → length (cmac c m) ≡ 16
length_cmac = whole.length_cmac

-- whatever the message
pub cmac_bytes : (c : Cipher) → ((x : Bytes) → IsBytes (c x)) → (m : Bytes) → IsBytes (cmac c m)
unfolding cmac
cmac_bytes c bytes m = bytes _

-- with AES
pub cmac_aes : (size : KeySize) (w : List (List ℕ)) (m : Bytes)
    → finish (ciph size w) (absorb (ciph size w) start m) ≡ cmac (ciph size w) m
cmac_aes size w = whole.cmac_running (ciph size w) (length_ciph size w)

pub length_cmac_aes : (size : KeySize) (w : List (List ℕ)) (m : Bytes) → length (cmac (ciph size w) m) ≡ 16
length_cmac_aes size w = whole.length_cmac (ciph size w) (length_ciph size w)
