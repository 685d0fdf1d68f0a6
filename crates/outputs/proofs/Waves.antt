-- Laws of a sound: its blocks by their tests, and that the blocks one after the other are the file; a refusal has none.
use Prim.Native.Nat.{ℕ, zero, suc, ◌+◌, ◌*◌, ◌-◌, ◌%◌, ◌^◌, ◌≤◌}
use mathlib.Core.Path.{◌≡◌, refl, sym, ◌∙◌, ap}
use mathlib.Core.List.{List, [], ◌++◌, append-nil, append_assoc}
use mathlib.Core.Logic.{inl, inr}
use native.Mathlib.Omega.{arith}
use lib.ListN.{length, take, drop, length-drop, drop_of_length-le, take-append-drop}
use lib.Seq.{sets-eq, take_at, take_all, length-take-le, drop-drop}
use lib.IntN.{ℤ}
use borrow.Author.Tests.{eq-eqb, ne_eqb}
use Rattle.buffers.specs.Put.{Put, text_in}
use Rattle.buffers.proofs.Puts.{text_fits}
use Rattle.buffers.proofs.Split.{lt_or_le}
use Rattle.refusals.specs.Table.{Why, Told, given, refused}
use Rattle.registers.specs.Stereo.{frequency_of}
use Rattle.registers.specs.Sound.{sound_told}
use Rattle.registers.specs.declared.record.Registers.{Registers}
use Rattle.sound.specs.Play.{play_leaves, played_of}
use Rattle.sound.specs.Values.{counter_after}
use Rattle.sound.proofs.Parts.{length_played, played_none, played_append, playing}
use Rattle.waves.specs.Head.{wave_head}
use Rattle.waves.specs.Samples.{samples_of}
use Rattle.waves.proofs.Stored.{length_samples, samples_append, samples_none}
use Rattle.sheets.specs.Sheet.{part, registers_of, sound_list}
use Rattle.sheets.specs.Input.{input_told}
use Rattle.sheets.proofs.Sheets.{few_sounds}
use Rattle.outputs.specs.Wave.{wave_told, wave_by, wave_of, sound_block, wave_block, block_by, block_at, first_blocks}
use Rattle.outputs.proofs.Sheets.{wave_untaken}

-- a block of what is told of a sound
module _ (g : Registers) (words : List ℕ) (k : ℕ) where
  pub block_refused : (w : Why) → refused w ≡ sound_told g → block_at g words k ≡ []
  unfolding block_at
  block_refused w e = rw (← e)

  pub block_given : given tt ≡ sound_told g → block_at g words k ≡ wave_block g words k
  unfolding block_at
  block_given e = rw (← e)

-- the values that a call left in lent memory, taken from its front, as samples with room for them
module _ (g : Registers) (words : List ℕ) (c : ℕ) (old new : List ℤ) (e : sound_told g ≡ given tt) (leaves : new ≡ play_leaves g words c old)
    (room : 8 * length words ≤ length old) where
  pub values_taken : take (8 * length words) new ≡ played_of g c words
  values_taken =
      let n : length (played_of g c words) ≡ 8 * length words = length_played g c words in
      rw (leaves, playing g (length words) (length old) e room, sets-eq (played_of g c words) old 0 (omega (arith, n)))
      (take_at (played_of g c words) _ (8 * length words) n)

  pub samples_put : {o p : List ℕ} {r : ℕ} (size : ℕ) → 16 * length words ≤ size
      → Put o p 0 (text_in size (samples_of (take (8 * length words) new))) r → Put o p 0 (samples_of (played_of g c words)) r
  samples_put size h put =
      let fits : length (samples_of (played_of g c words)) ≤ size = omega (arith, length_samples (played_of g c words), length_played g c words) in
      rw (← text_fits size (samples_of (played_of g c words)) fits, ← values_taken) put

-- past the last word there are no samples
no_samples : (g : Registers) (words : List ℕ) (k : ℕ) → length words ≤ 256 * k → sound_block g words k ≡ []
unfolding sound_block
no_samples g words k h = rw (drop_of_length-le words {i = 256 * k} h, played_none g (counter_after 0 (1024 * k))) samples_none

-- the blocks of some words, by their tests
module _ (g : Registers) (words : List ℕ) (k : ℕ) where
  pub block_none : length words ≤ 256 * k → sound_block g words k ≡ []
  block_none h = no_samples g words k h

  counted : 4 * (256 * k) % 2 ^ 32 ≡ counter_after 0 (1024 * k)
  counted = ap (λ (n : ℕ). n % 2 ^ 32) (omega arith)

  pub block_part : (part : List ℕ) → part ≡ take 256 (drop (256 * k) words) → samples_of (played_of g (4 * (256 * k) % 2 ^ 32) part) ≡ sound_block g words k
  unfolding sound_block
  block_part part e = rw (e, counted)

  pub file_head : k ≡ 0 → wave_block g words k ≡ wave_head (frequency_of g) (length words)
  unfolding wave_block
  file_head e = rw (eq-eqb k 0 e)

  pub file_block : (k ≡ 0 → ⊥) → wave_block g words k ≡ sound_block g words (k - 1)
  unfolding wave_block
  file_block h = rw (ne_eqb k 0 h)

-- from word 256 k on: a block, then what follows it
module _ (g : Registers) (words : List ℕ) where
  rest : ℕ → List ℕ
  rest k = samples_of (played_of g (counter_after 0 (1024 * k)) (drop (256 * k) words))

  none_left : (k : ℕ) → length words ≤ 256 * k → rest k ≡ []
  unfolding rest
  none_left k h = rw (drop_of_length-le words {i = 256 * k} h, played_none g (counter_after 0 (1024 * k))) samples_none

  split : (k : ℕ) → rest k ≡ sound_block g words k ++ rest (suc k)
  unfolding rest sound_block
  split k = elim (lt_or_le (length words) (256 * suc k)) [
    | inl l ↦
        rw (
          drop_of_length-le words {i = 256 * suc k} (omega arith),
          played_none g (counter_after 0 (1024 * suc k)),
          samples_none,
          append-nil,
          take_all 256 (drop (256 * k) words) (omega (arith, length-drop (256 * k) words)),
        )
    | inr r ↦
        let from : List ℕ = drop (256 * k) words in
        let at : ℕ = counter_after 0 (1024 * k) in
        let t : length (take 256 from) ≡ 256 = length-take-le 256 from (omega (arith, length-drop (256 * k) words)) in
        let q : 256 * k + 256 ≡ 256 * suc k = omega arith in
        let d : drop 256 from ≡ drop (256 * suc k) words = drop-drop 256 (256 * k) words ∙ ap (λ (n : ℕ). drop n words) q in
        let c : counter_after at (4 * length (take 256 from)) ≡ counter_after 0 (1024 * suc k) = rw t (omega arith) in
        ap (λ (l : List ℕ). samples_of (played_of g at l)) (sym (take-append-drop 256 from))
        ∙ (ap samples_of (played_append g at (take 256 from) (drop 256 from) (omega arith)
        ∙ ap (λ (l : List ℤ). played_of g at (take 256 from) ++ l) (rw (c, d)))
        ∙ samples_append (played_of g at (take 256 from)) (played_of g (counter_after 0 (1024 * suc k)) (drop (256 * suc k) words)))
  ]

  -- the first blocks of a sound that is given
  abbrev first : ℕ → List ℕ
  first k = first_blocks g words (given tt) k

  next_block : (k : ℕ) → wave_block g words (suc k) ≡ sound_block g words k
  next_block k =
      file_block g words (suc k) (λ q. omega arith) ∙ ap (sound_block g words) (let q : suc k - 1 ≡ k = omega arith in q)

  blocks_so_far : (k : ℕ) → first (suc k) ++ rest k ≡ wave_by g words (given tt)
  unfolding first_blocks wave_block rest
  blocks_so_far zero = refl
  blocks_so_far (suc k) =
      append_assoc (first (suc k)) (wave_block g words (suc k)) (rest (suc k))
      ∙ (ap (λ (l : List ℕ). first (suc k) ++ (l ++ rest (suc k))) (next_block k)
      ∙ (ap (λ (l : List ℕ). first (suc k) ++ l) (sym (split k)) ∙ blocks_so_far k))

  no_blocks : (w : Why) (k : ℕ) → first_blocks g words (refused w) k ≡ []
  unfolding first_blocks
  no_blocks w zero = refl
  no_blocks w (suc k) = rw (no_blocks w k)

  -- What is told of a sound has its blocks, one after the other, as its file, as soon as they are as many as its words ask for.
  pub sound_blocks : (t : Told (Unit {0})) (k : ℕ) → length words ≤ 256 * k → first_blocks g words t (suc k) ≡ wave_by g words t
  sound_blocks (refused w) k h = no_blocks w (suc k)
  sound_blocks (given u) k h =
      sym (append-nil (first (suc k))) ∙ (ap (λ (l : List ℕ). first (suc k) ++ l) (sym (none_left k h)) ∙ blocks_so_far k)

  pub no_more_blocks : (t : Told (Unit {0})) (k : ℕ) → length words ≤ 256 * k → block_by g words t (suc k) ≡ []
  no_more_blocks (refused w) k h = refl
  no_more_blocks (given u) k h = next_block k ∙ no_samples g words k h

-- A plate's blocks, one after the other, are its file: the head, and at most 64 of samples.
module _ (file : List ℕ) where
  blocks_of : (t : Told (Unit {0})) → input_told file ≡ t → first_blocks (registers_of file) (sound_list file) (wave_told file) 65 ≡ wave_of file
  unfolding wave_of
  blocks_of (refused w) e = rw (wave_untaken file w e) (no_blocks (registers_of file) (sound_list file) w 65)
  blocks_of (given u) e = sound_blocks (registers_of file) (sound_list file) (wave_told file) 64 (omega (arith, few_sounds file e))

  pub wave_blocks : first_blocks (registers_of file) (sound_list file) (wave_told file) 65 ≡ wave_of file
  wave_blocks = blocks_of (input_told file) refl
