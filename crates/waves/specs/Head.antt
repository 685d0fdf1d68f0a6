-- The head of a WAV file of 16-bit stereo samples.
use Rattle.std.specs.Prelude.{ℕ, ◌+◌, ◌*◌, ◌/◌, ◌%◌, ◌^◌, List, [], ◌∷◌}
use Rattle.buffers.specs.Words.{word, bytes_of}

-- Frames a second, to the nearest: a sound frequency of n is a period of n + 1 microseconds.
abbrev pub rate_of : ℕ → ℕ
rate_of frequency = (1000000 + (frequency + 1) / 2) / (frequency + 1)

-- `RIFF`, how many bytes follow, `WAVE`; `fmt `, its 16 bytes: format 1 in 2 channels, frames and bytes a second, 4 bytes
-- a frame in samples of 16 bits; `data`, its bytes. A sound word has 4 bytes, and each is a frame. A number of bytes is told in 32 bits.
abbrev pub head_words : ℕ → ℕ → List ℕ
head_words rate words =
    word 82 73 70 70
    ∷ (36 + 16 * (words % 2 ^ 28)) % 2 ^ 32
    ∷ word 87 65 86 69
    ∷ word 102 109 116 32
    ∷ 16
    ∷ word 1 0 2 0
    ∷ rate
    ∷ (4 * rate)
    ∷ word 4 0 16 0
    ∷ word 100 97 116 97
    ∷ 16 * (words % 2 ^ 28)
    ∷ []

unfoldable pub wave_head : ℕ → ℕ → List ℕ
wave_head frequency words = bytes_of (head_words (rate_of frequency) words)
