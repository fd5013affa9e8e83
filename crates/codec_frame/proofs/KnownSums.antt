-- Sums from outside, so that a wrong constant or step does not check.
use Rattle.std.proofs.Common.{◌≡◌, [], codes, refl}
use Rattle.codec_frame.specs.Division.{crc_of}

pub crc_of_digits : crc_of (codes "123456789") ≡ 0xcbf43926
unfolding crc_of
crc_of_digits = refl

pub crc_of_nothing : crc_of [] ≡ 0
unfolding crc_of
crc_of_nothing = refl

pub crc_of_a : crc_of (codes "a") ≡ 0xe8b7be43
unfolding crc_of
crc_of_a = refl
