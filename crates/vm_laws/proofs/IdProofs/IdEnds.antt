-- The states that histories of ids reach: those of clones, and those that were read.
use Rattle.std.proofs.Common.{[], ◌∷◌, refl, inr, Ok}
use Rattle.vm_ids.specs.Histories.IdHistories.{Clone, IsIdCallFrom}
use Rattle.vm_laws.specs.IdHistoryLaws.{IdCloneIsReached, IdReadIsReached}
use Rattle.vm_ranges.proofs.Clones.{clone_is}
use Rattle.vm_ranges.proofs.Histories.{history_append}

pub clone_is_reached : IdCloneIsReached
clone_is_reached calls old clone r c = (
  clone_is old clone c,
  record {
    first = r.first;
    begins = r.begins;
    history = history_append IsIdCallFrom calls ((Clone, Ok clone) ∷ []) r.first old clone r.history (clone, (c, refl), refl);
  },
)

pub read_is_reached : IdReadIsReached
read_is_reached value state s = record { first = state; begins = inr (inr (inr (record { value = value; encoded = s }))); history = refl }
