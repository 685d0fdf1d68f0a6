-- What is told through a record that C holds: an accepted setting, and where words stand.
use Prim.Native.Nat.{ℕ}
use mathlib.Core.Path.{◌≡◌}
use mathlib.Core.List.{List, [], ◌∷◌}
use Rattle.refusals.specs.Table.{given}
use Rattle.registers.specs.Load.{applied}
use Rattle.registers.specs.declared.setting.Setting.{Setting}
use Rattle.registers.specs.inner.Accepted.{Accepted}
use Rattle.registers.proofs.Accepted.{accepted}
use Rattle.registers.proofs.Accepting.{accepted_both}
use Rattle.stretch.specs.declared.found.Stretch.{Stretch}
use Rattle.vombelishi.specs.Record.{record_of}
use Rattle.vombelishi.specs.Load.{accepted_told}
use Rattle.vombelishi.proofs.Loading.{told_accepted}

pub setting_accepted : (values written words : List ℕ) (s : Setting) → accepted_told values written words ≡ given s → Accepted s
setting_accepted values written words s e =
    let g = record_of values written in
    accepted (applied g words) s (accepted_both g words s (told_accepted values written words s e)).1

-- Where words stand, as two numbers.
abbrev pub place_of : Stretch → List ℕ
place_of p = p.start ∷ p.count ∷ []
