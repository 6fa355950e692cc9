-- A place's byte is copied to another place (CPU instruction set: load instructions; own).
use Rattle.std.specs.Prelude.{Bool, false, ◌&&◌, ◌||◌, ◌==◌, if◌then◌else◌, nat_le, is_none}
use Rattle.gb_ops.specs.declared.op.Register.TheVariants.{A}
use Rattle.gb_domain.specs.declared.places.Place.{Place}
use Rattle.gb_domain.specs.declared.places.Place.TheVariants as place
use Rattle.gb_domain.specs.declared.places.OneByte.{OneByte}
use Rattle.gb_domain.specs.Places.{is_same_register}
use Rattle.gb_copies.specs.Places.{is_place, count_places, without_place, with_place, byte_at}

abbrev pub is_same_place : Place → Place → Bool
is_same_place (place.Register r) (place.Register s) = is_same_register r s
is_same_place (place.Address a) (place.Address b) = a == b
is_same_place _ _ = false

abbrev pub is_a : Place → Bool
is_a p = is_same_place p (place.Register A)

-- the two places alone, without a test
abbrev pub two : Place → Place → OneByte
two to from = with_place to (byte_at from)

-- where the one byte isn't copied, what is left of it gives way to the copy: always for A's, else where it has no test and
-- the copy is of A or no more than one place is left
abbrev pub gives_way : Place → Place → OneByte → Bool
gives_way to from left = is_a to || (is_none left.test && (is_a from || nat_le (count_places left) 1))

abbrev pub copied_beside : Place → Place → OneByte → OneByte
copied_beside to from left = if gives_way to from left then two to from else left

-- one of both is a register; a register's copy to itself changes nothing
unfoldable pub copied : Place → Place → OneByte → OneByte
copied to from b =
    if is_same_place to from then b
    else if is_place from b then with_place to b
    else copied_beside to from (without_place to b)
