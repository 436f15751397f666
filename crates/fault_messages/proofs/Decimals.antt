-- the limits in digits
use Rattle.std.{proofs.Common.{◌≡◌, codes, decimal, refl}, specs.Fmt.digits}

pub of_16 : decimal 16 ≡ codes "16"
unfolding digits
of_16 = refl

pub of_40 : decimal 40 ≡ codes "40"
unfolding digits
of_40 = refl

pub of_126 : decimal 126 ≡ codes "126"
unfolding digits
of_126 = refl

pub of_128 : decimal 128 ≡ codes "128"
unfolding digits
of_128 = refl

pub of_255 : decimal 255 ≡ codes "255"
unfolding digits
of_255 = refl

pub of_256 : decimal 256 ≡ codes "256"
unfolding digits
of_256 = refl

pub of_2048 : decimal 2048 ≡ codes "2048"
unfolding digits
of_2048 = refl

pub of_1099511 : decimal 1099511 ≡ codes "1099511"
unfolding digits
of_1099511 = refl

pub of_1099511627 : decimal 1099511627 ≡ codes "1099511627"
unfolding digits
of_1099511627 = refl

pub of_17592186 : decimal 17592186 ≡ codes "17592186"
unfolding digits
of_17592186 = refl

pub of_17592186044 : decimal 17592186044 ≡ codes "17592186044"
unfolding digits
of_17592186044 = refl
