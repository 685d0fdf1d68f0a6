-- Laws of a WAV file's head: its rate is the nearest, it is 44 bytes long, and they are those of its words.
use Prim.Native.Nat.{ℕ, ◌+◌, ◌*◌, ◌/◌, ◌<◌, ◌≤◌}
use mathlib.Core.Path.{◌≡◌}
use mathlib.Core.List.{List}
use native.Mathlib.Nat.{div-le_self, div-mul-le_self, lt-div-mul-add}
use native.Mathlib.Omega.{arith}
use lib.ListN.{length}
use Rattle.buffers.specs.Words.{bytes_of}
use Rattle.buffers.proofs.Words.{length_bytes}
use Rattle.waves.specs.Head.{rate_of, head_words, wave_head}

-- the rate of a frequency of one byte has few digits
pub rate_most : (frequency : ℕ) → frequency < 256 → rate_of frequency ≤ 1000128
rate_most f h = let d = div-le_self (1000000 + (f + 1) / 2) (f + 1) in omega (arith, d)

pub length_head : (frequency words : ℕ) → length (wave_head frequency words) ≡ 44
unfolding wave_head
length_head f w = length_bytes (head_words (rate_of f) w)

-- the bytes of its words are the head
pub head_bytes : (ws : List ℕ) (frequency words : ℕ) → ws ≡ head_words (rate_of frequency) words → bytes_of ws ≡ wave_head frequency words
unfolding wave_head
head_bytes ws f w e = rw e

-- no other whole number of frames a second is nearer to a million by the period
pub nearest : (frequency : ℕ) → (2 * (rate_of frequency * (frequency + 1)) ≤ 2 * 1000000 + (frequency + 1))
    × (2 * 1000000 ≤ 2 * (rate_of frequency * (frequency + 1)) + (frequency + 1))
nearest f =
    let a : ℕ = 1000000 + (f + 1) / 2 in
    let least : a < a / (f + 1) * (f + 1) + (f + 1) = lt-div-mul-add {a = a} {b = f + 1} (omega arith) in
    let most : a / (f + 1) * (f + 1) ≤ a = div-mul-le_self a (f + 1) in
    (omega (arith, most), omega (arith, least))
