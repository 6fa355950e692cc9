-- A clock stays as it is while it is halted, and where no second passes.
use Rattle.std.proofs.Common.{◌≡◌, ℕ, zero, suc, true, refl}
use Rattle.gb_mbc.specs.declared.clock.Time.{Time}
use Rattle.gb_mbc.specs.Clock.{seconds_later, ticked}

pub halted_stays : (n : ℕ) (t : Time) → t.is_halted ≡ true → seconds_later n t ≡ t
unfolding ticked seconds_later
halted_stays zero t h = refl
halted_stays (suc n) t h = rw (halted_stays n t h, h) refl

pub no_second : (n : ℕ) (t : Time) → n ≡ 0 → seconds_later n t ≡ t
unfolding seconds_later
no_second n t e = rw e refl

pub ruleset stays = (halted_stays, no_second)
