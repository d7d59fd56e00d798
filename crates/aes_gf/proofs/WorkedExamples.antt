-- FIPS 197, 4.2: the standard's own products of {57}, computed.
use mathlib.Core.Path.{◌≡◌, refl}
use Rattle.aes_gf.specs.Field.{x_times, product, ◌•◌}

pub doubled : x_times 0x57 ≡ 0xae
unfolding x_times
doubled = refl

pub doubled_again : x_times 0xae ≡ 0x47
unfolding x_times
doubled_again = refl

pub times_13 : 0x57 • 0x13 ≡ 0xfe
unfolding x_times product ◌•◌
times_13 = refl

pub times_83 : 0x57 • 0x83 ≡ 0xc1
unfolding x_times product ◌•◌
times_83 = refl
