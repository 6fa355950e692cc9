-- What `upgrade` writes, by the version that the words name.
use Rattle.std.specs.Prelude.{ℕ, List}
use Rattle.gb_domain.specs.Certificate.{Certificate}
use Rattle.gb_words.specs.declared.words.TargetVersion.{TargetVersion}
use Rattle.gb_words.specs.declared.words.TargetVersion.TheVariants as word
use Rattle.gb_command_line.specs.Below.gb_verify.declared.upgrade.UpgradeTo.TheVariants.{Two, Three}
use Rattle.gb_command_line.specs.Below.gb_verify.declared.upgrade.Upgraded.{Upgraded}
use Rattle.gb_command_line.specs.Below.gb_verify.Upgrade as older
use Rattle.gb_program.specs.Fourth.{fourth_text}
use Rattle.gb_program.specs.FourthFile as whole

-- the bytes of a certificate in the version that the words name, or in its own where that is a later one
abbrev pub text_in : TargetVersion → Certificate → List ℕ
text_in word.Two c = older.text_in Two c
text_in word.Three c = older.text_in Three c
text_in word.Four c = fourth_text c

-- these, or the line of the first fault, or where memory ran out its own
abbrev pub written : TargetVersion → Upgraded → List ℕ → List ℕ
written word.Two outcome bytes = older.written Two outcome bytes
written word.Three outcome bytes = older.written Three outcome bytes
written word.Four outcome bytes = whole.written outcome bytes
