-- What a history's own calls and answers tell since the last emptying: the words loaded, the bytes given, and the record it began with.
use Rattle.std.specs.Prelude.{ℕ, Bool, false, ◌||◌, List, [], ◌∷◌, ◌++◌, eqb}
use Rattle.buffers.specs.Pick.{pick}
use Rattle.queues.specs.Queue.{fresh_of, fitted_of}
use Rattle.queues.specs.declared.Queue.{Queue}
use Rattle.histories.specs.Calls.{QueueCall, load, read, vertical, ask, horizontal, ends, Answered, answers}
use Rattle.histories.specs.Account.{empties}

-- The word that an accepted load has loaded, and the byte that an accepted read has given.
abbrev pub word_in : QueueCall → ℕ → List ℕ
word_in (load w) number = pick (eqb number 0) (w ∷ []) []
word_in (read control) number = []
word_in (vertical raster) number = []
word_in (ask words) number = []
word_in (horizontal g y) number = []
word_in (ends g y) number = []

abbrev pub byte_in : QueueCall → ℕ → ℕ → List ℕ
byte_in (load w) number byte = []
byte_in (read control) number byte = pick (eqb number 0) (byte ∷ []) []
byte_in (vertical raster) number byte = []
byte_in (ask words) number byte = []
byte_in (horizontal g y) number byte = []
byte_in (ends g y) number byte = []

-- In the order of the calls, since the last that empties a queue of this kind.
unfoldable pub words_since : ℕ → List Answered → List ℕ
words_since kind [] = []
words_since kind (x ∷ xs) = pick (empties kind x.call) [] (words_since kind xs ++ word_in x.call x.reply.number)

unfoldable pub bytes_since : ℕ → List Answered → List ℕ
bytes_since kind [] = []
bytes_since kind (x ∷ xs) = pick (empties kind x.call) [] (bytes_since kind xs ++ byte_in x.call x.reply.number x.reply.byte)

-- So of the calls on a record: the words they have loaded and the bytes they were given since the last emptying, by their own answers.
abbrev pub loaded_by : Queue → List QueueCall → List ℕ
loaded_by q calls = words_since q.ring.kind (answers q calls)

abbrev pub given_by : Queue → List QueueCall → List ℕ
given_by q calls = bytes_since q.ring.kind (answers q calls)

-- Has a history emptied a queue of this kind?
unfoldable pub emptied : ℕ → List QueueCall → Bool
emptied kind [] = false
emptied kind (c ∷ cs) = empties kind c || emptied kind cs

-- The record that the calls since then began with: a fresh one, or where nothing has emptied it the first record, a fresh one if that is unfit.
unfoldable pub start_of : Queue → List QueueCall → Queue
start_of q [] = fitted_of q
start_of q (c ∷ cs) = pick (empties q.ring.kind c) (fresh_of q.ring.kind) (start_of q cs)
