-- The parts of each plan: raises and closes come first, and each offer is of as many bytes as its
-- content has.
use Rattle.std.specs.Prelude.{◌≡◌, ◌⊎◌, Bool, true, false, List, [], ◌∷◌, ◌++◌, map, Some, Ok, refl}
use Rattle.std.proofs.Common.{inl, inr, sym}
use Rattle.kd_types.specs.declared.creds.Kind.{Kind}
use Rattle.kd_wire.specs.declared.command.Command.{Command}
use Rattle.kd_acts.specs.State.{Answer, Image, Visit, by_desk, close, drain, offer, post, raise, settle}
use Rattle.kd_acts.proofs.Reserved.{turns}
use Rattle.kd_commands.specs.declared.conn.Conn.{Conn}
use Rattle.kd_commands.specs.declared.who.Who.{Who}
use Rattle.kd_commands.specs.declared.who.WhoKind.{WhoKind}
use Rattle.kd_commands.specs.State.{Desk}
use Rattle.kd_commands.specs.Plans.{Part, Plan}
use Rattle.kd_commands.specs.Leaving.{closing, on_endpoint}
use Rattle.kd_commands.specs.Seating.{IsKnown}
use Rattle.kd_commands.specs.Visits.{images_in, next_part, with_images}
use Rattle.kd_commands.specs.Step.{plan}
use Rattle.kd_commands.proofs.Asides.{AreAside, IsAside, next_aside}
use Rattle.kd_commands.proofs.Moves.{Moves, arrives, ends, learns, leaves, stays}
use Rattle.kd_commands.proofs.Moving.{moves}

-- first some that end a generation, then those aside
abbrev pub AreLaidOut : List Part → Type 0
AreLaidOut [] = Unit {0}
AreLaidOut (p ∷ ps) = ((turns (by_desk p.act) ≡ true) × AreLaidOut ps) ⊎ AreAside (p ∷ ps)

asides_laid : (ps : List Part) → AreAside ps → AreLaidOut ps
asides_laid [] a = tt
asides_laid (p ∷ ps) a = inr a

closes_laid : (force : Bool) (cs : List Conn) (rest : List Part) → AreAside rest → AreLaidOut (map (closing force) cs ++ rest)
closes_laid force [] rest a = asides_laid rest a
closes_laid force (c ∷ cs) rest a = inl (refl, closes_laid force cs rest a)

moves_laid : (d : Desk) (m : WhoKind) (p : Plan) → Moves d m p → AreLaidOut p.parts
moves_laid d m p (stays t) = asides_laid p.parts t.aside
moves_laid d m p (arrives t) = rw t.parts (inl (refl, asides_laid t.rest t.aside))
moves_laid d m p (leaves t) = rw t.parts (closes_laid t.force (t.one ∷ []) t.rest t.aside)
moves_laid d m p (ends t) = rw t.parts (closes_laid true (on_endpoint d t.endpoint) t.rest t.aside)
moves_laid d m p (learns t) = rw t.parts tt

-- the parts of any plan are
pub plan_laid : (d : Desk) (k : Kind) (w : Who) (x : Command) (p : Plan) → IsKnown d k w.member → plan d w x ≡ Ok p → AreLaidOut p.parts
plan_laid d k w x p is e = moves_laid d w.member p (moves d k w x p is e)

-- ---- the next part

met_turns : (is : List Image) (v : Visit) → turns (by_desk v) ≡ true → turns (by_desk (with_images is v)) ≡ true
met_turns is (raise size) a = a
met_turns is (close force) a = a
met_turns is (offer user len source must content) a = a
met_turns is (post image) a = a
met_turns is drain a = a
met_turns is (settle images) a = a

pub aside_turns : (v : Visit) → IsAside v → turns (by_desk v) ≡ false
aside_turns (raise size) a = absurd a
aside_turns (close force) a = absurd a
aside_turns (offer user len source must content) a = refl
aside_turns (post image) a = refl
aside_turns drain a = refl
aside_turns (settle images) a = refl

-- it ends a generation, or is aside
pub laid_next : (is : List Image) (ps : List Part) (outs : List Answer) (q : Part) → AreLaidOut ps → next_part is ps outs ≡ Some q
    → (turns (by_desk q.act) ≡ true) ⊎ IsAside q.act
unfolding next_part
laid_next is [] outs q a e = absurd cc
laid_next is (p ∷ ps) [] q (inl a) e = let same : record p { act = with_images is p.act } ≡ q = cc in inl (rw (sym same) (met_turns is p.act a.0))
laid_next is (p ∷ ps) (o ∷ outs) q (inl a) e = laid_next (is ++ images_in o) ps outs q a.1 e
laid_next is (p ∷ ps) outs q (inr a) e = inr (next_aside is (p ∷ ps) outs q a e)
