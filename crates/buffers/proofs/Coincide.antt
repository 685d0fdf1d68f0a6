-- When a contract leaves one answer: stated of the contract itself, for its arguments, whatever the lifetimes.
use Prim.Native.Nat.{ℕ}
use mathlib.Core.Path.{◌≡◌}
use mathlib.Core.List.{List}
use seplogic.Ra.Ura.{Ura}
use base.Logic.{SProp}
use borrow.Fn.Kinds.{ParamKind, ResultKind, Out, Dens, res_t, ended_of}
use contract.Lifetimes.{Lfts}
use contract.Monad.{Fun, fact}
use denote.Triple.Clauses.{Ended, Clauses, AtExit}
use denote.Triple.Entry.{Args, Res}
use types.Logic.{Logic}
use prog.Memory.{Memory}
use prog.Routine.{Routine}

-- Any two answers that the contract permits are the same.
abbrev pub OneAnswer : (n : ℕ) (ps : List (ParamKind n)) (r : ResultKind n) → Out n ps r → Type 0
OneAnswer n ps r post =
    (κs : Lfts n) (a : Dens κs ps) (x y : (res_t r κs).Denot) (s t : AtExit (ended_of n ps r) κs) →
    post κs a x s → post κs a y t → x ≡ y

-- So are any two states of what `lent` reads of the memory at exit.
abbrev pub OneState :
    {A : Type 0} (n : ℕ) (ps : List (ParamKind n)) (r : ResultKind n) (lent : (κs : Lfts n) → AtExit (ended_of n ps r) κs → A)
    → Out n ps r → Type 0
OneState n ps r lent post =
    (κs : Lfts n) (a : Dens κs ps) (x y : (res_t r κs).Denot) (s t : AtExit (ended_of n ps r) κs) →
    post κs a x s → post κs a y t → (x ≡ y) × (lent κs s ≡ lent κs t)

-- Of a call that is lent a struct there is no `Post`: its clause itself says, in every model, nothing but a plain fact of the arguments, the
-- answer and the exit; and by that fact any two answers are the same, and any two states of what `lent` reads.
pub record OneLent {A : Type 0} (T : Ended)
    (clauses : (M : Type 1) (𝓤 : Ura M) (𝓛 : Logic 𝓤) → (Memory → SProp 𝓤) → (Routine → Fun 𝓤) → Clauses 𝓤 T)
    (lent : (κs : Lfts T.signature.lifetimes) → AtExit T κs → A) : Type 3 where
  pub says : (κs : Lfts T.signature.lifetimes) → Args T.signature κs → Res T.signature κs → AtExit T κs → Type 0
  pub nothing_else : {M : Type 1} {𝓤 : Ura M} (𝓛 : Logic 𝓤) (mem : Memory → SProp 𝓤) (run : Routine → Fun 𝓤)
      (κs : Lfts T.signature.lifetimes) (a : Args T.signature κs) (g : (clauses M 𝓤 𝓛 mem run κs a).ghost)
      (r : Res T.signature κs) (s : AtExit T κs) → (clauses M 𝓤 𝓛 mem run κs a).ensures g r s ≡ fact 𝓤 (says κs a r s)
  pub one : (κs : Lfts T.signature.lifetimes) (a : Args T.signature κs) (x y : Res T.signature κs) (s t : AtExit T κs)
      → says κs a x s → says κs a y t → (x ≡ y) × (lent κs s ≡ lent κs t)
