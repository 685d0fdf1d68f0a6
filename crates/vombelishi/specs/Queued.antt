-- Queues in C: what a raster's sync asks for is 13 for what is no record, else a number of words.
use Rattle.std.specs.Prelude.{ℕ, List}
use Rattle.refusals.specs.Table.{Told, given, and_then}
use Rattle.queues.specs.Syncs.{sync_ask}
use Rattle.vombelishi.specs.Record.{record_told}

unfoldable pub sync_call : List ℕ → List ℕ → ℕ → ℕ → Told ℕ
sync_call values written kind raster = and_then (record_told values written) (λ g. given (sync_ask g kind raster))
