-- The grey of a colour: 17 times its guns by the weights the eye has, in 256ths, rounded down.
use Rattle.std.specs.Prelude.{ℕ, ◌+◌, ◌*◌, ◌/◌}
use Rattle.colours.specs.Guns.{red_gun, green_gun, blue_gun}

abbrev pub grey_of : ℕ → ℕ
grey_of colour = 17 * (77 * red_gun colour + 150 * green_gun colour + 29 * blue_gun colour) / 256
