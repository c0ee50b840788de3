-- What rules are asked about, and when a condition holds of it.
use Rattle.std.specs.Prelude.{ℕ, Bool, false, not, ◌&&◌, ◌||◌, ◌==◌, List, [], ◌∷◌}
use Rattle.kd_model.specs.Words.{same, some_of, is_empty}
use Rattle.kd_bloom.specs.Bits.{meets}
use Rattle.kd_match.specs.declared.condition.Condition.{Condition}
use Rattle.kd_match.specs.declared.condition.Condition.TheVariants as condition
use Rattle.kd_match.specs.declared.subject.Subject.{Subject}
use Rattle.kd_match.specs.declared.subject.Subject.TheVariants as subject

-- a broadcast, by its sender, the names that the sender owns, its filter and the filter's
-- generation; or a notice of an id that came or went, or of a name that got an owner, lost it or
-- changed it
pub data Told : Type 0 where
  message : (source : ℕ) (names : List (List ℕ)) (filter : List ℕ) (generation : ℕ) → Told
  id_add : (id : ℕ) → Told
  id_remove : (id : ℕ) → Told
  name_add : (old new : ℕ) (name : List ℕ) → Told
  name_remove : (old new : ℕ) (name : List ℕ) → Told
  name_change : (old new : ℕ) (name : List ℕ) → Told

-- the same, as the code hands it in
abbrev pub subject_told : Subject → Told
subject_told (subject.Message source names filter generation) =
    message source names.now filter.now generation
subject_told (subject.IdAdd id) = id_add id
subject_told (subject.IdRemove id) = id_remove id
subject_told (subject.NameAdd change) = name_add change.now.old change.now.new change.now.name
subject_told (subject.NameRemove change) = name_remove change.now.old change.now.new change.now.name
subject_told (subject.NameChange change) = name_change change.now.old change.now.new change.now.name

-- an id of all ones fits any id, a sender's too
abbrev pub fits_id : ℕ → ℕ → Bool
fits_id wanted id = wanted == 18446744073709551615 || wanted == id

-- an empty name fits any name
abbrev pub fits_name : List ℕ → List ℕ → Bool
fits_name wanted name = is_empty wanted || same wanted name

-- the old owner, the new owner and the name fit
abbrev pub fits_change : ℕ → ℕ → List ℕ → ℕ → ℕ → List ℕ → Bool
fits_change wanted_old wanted_new wanted old new name =
    fits_id wanted_old old && (fits_id wanted_new new && fits_name wanted name)

-- the sender owns the name, or for an empty name any
abbrev pub owns : List (List ℕ) → List ℕ → Bool
owns names [] = not (is_empty names)
owns names (x ∷ xs) = some_of (same (x ∷ xs)) names

-- whether a condition holds; one on messages is false of a notice, and the reverse
unfoldable pub condition_holds : Told → Condition → Bool
condition_holds (message source names filter generation) (condition.Mask mask) =
    meets filter generation mask
condition_holds (message source names filter generation) (condition.Name name) = owns names name
condition_holds (message source names filter generation) (condition.Id wanted) =
    fits_id wanted source
condition_holds (id_add id) (condition.IdAdd wanted) = fits_id wanted id
condition_holds (id_remove id) (condition.IdRemove wanted) = fits_id wanted id
condition_holds (name_add old new name) (condition.NameAdd o n wanted) =
    fits_change o n wanted old new name
condition_holds (name_remove old new name) (condition.NameRemove o n wanted) =
    fits_change o n wanted old new name
condition_holds (name_change old new name) (condition.NameChange o n wanted) =
    fits_change o n wanted old new name
condition_holds _ _ = false
