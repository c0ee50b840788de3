-- What connections call themselves stays short.
use Rattle.std.proofs.Common.{◌≡◌, ◌≤◌, ℕ, Bool, true, List, [], ◌∷◌, ◌++◌, length, IfSome, refl}
use Rattle.std.specs.Prelude.{◌&&◌, ◌==◌, is_none, nat_le, not}
use Rattle.std.specs.List.{AllByRecursion}
use Rattle.std.specs.Str.{is_utf8}
use Rattle.std.proofs.lemmas.Bool.{and_parts, leb-true}
use Rattle.kd_model.proofs.Lists.{all_of_filter, all_of_put}
use Rattle.kd_replies.specs.Requests.{is_among}
use Rattle.kd_wire.specs.declared.command.Command.{Command}
use Rattle.kd_wire.specs.declared.command.Command.TheVariants as cmd
use Rattle.kd_wire.specs.declared.item.WireItem.{WireItem}
use Rattle.kd_wire.specs.declared.item.WireItem.TheVariants as item
use Rattle.kd_wire.specs.Commands.{flags_of, items_of, opcode_in}
use Rattle.kd_wire.specs.Frames.{frame_length}
use Rattle.kd_wire.specs.Items.{kind_of}
use Rattle.kd_wire.specs.Kinds.{kinds_of}
use Rattle.kd_wire.specs.Reading.{has_form, item_may_follow, stand}
use Rattle.kd_wire.specs.Refusals.{command_flaw}
use Rattle.kd_wire.specs.WellFormed.{is_well_formed}
use Rattle.kd_commands.specs.declared.conn.Conn.{Conn}
use Rattle.kd_commands.specs.declared.who.Who.{Who}
use Rattle.kd_commands.specs.declared.who.WhoKind.{WhoKind}
use Rattle.kd_commands.specs.State.{Desk, sits_before}
use Rattle.kd_commands.specs.Hello.{newcomer, with_newcomer}
use Rattle.kd_commands.specs.Endpoints.{with_endpoint}
use Rattle.kd_commands.specs.Items.{description_in}
use Rattle.kd_commands.specs.Leaving.{byebye, close_conn, close_endpoint, ids_of, on_endpoint, without_conns, without_endpoint}
use Rattle.kd_commands.specs.NameList.{name_list}
use Rattle.kd_commands.specs.Names.{with_claim, without_claim}
use Rattle.kd_commands.specs.Plans.{Plan}
use Rattle.kd_commands.specs.Tick.{tick}
use Rattle.kd_settled.specs.Lengths.{AreDescribed, DescriptionsStay, IsDescribed}
use Rattle.kd_settled.proofs.Cases.{Cases, asked_by, of_command}
use Rattle.kd_settled.proofs.Living.{staying}

-- items that stand have their forms
have_forms : (kinds : List ℕ) (before is : List WireItem) → stand kinds before is ≡ true → AllByRecursion (λ i. has_form i ≡ true) is
have_forms kinds before [] h = tt
have_forms kinds before (i ∷ is) h =
    let both = and_parts (item_may_follow kinds before (kind_of i) && has_form i) (stand kinds (before ++ i ∷ []) is) h in
    ((and_parts (item_may_follow kinds before (kind_of i)) (has_form i) both.0).1, have_forms kinds (before ++ i ∷ []) is both.1)

described : (is : List WireItem) → AllByRecursion (λ i. has_form i ≡ true) is → IfSome (description_in is) (λ text. length text ≤ 255)
described [] a = tt
described (item.Description text ∷ is) a = leb-true (length text) 255 (and_parts (is_utf8 text) (nat_le (length text) 255) a.0).1
described (i ∷ is) a = described is a.1

formed : (x : Command) → is_well_formed x ≡ true → AllByRecursion (λ i. has_form i ≡ true) (items_of x)
formed x h =
    have_forms (kinds_of (opcode_in x) (flags_of x)) [] (items_of x)
    (and_parts (nat_le (frame_length x) 131072) (stand (kinds_of (opcode_in x) (flags_of x)) [] (items_of x))
    (and_parts (nat_le (frame_length x) 131072 && stand (kinds_of (opcode_in x) (flags_of x)) [] (items_of x)) (is_none (command_flaw x)) h).0).1

abbrev Stay : Command → Plan → Type 0
Stay x p = is_well_formed x ≡ true → AreDescribed p.next

fewer : (d : Desk) (ids : List ℕ) → AreDescribed d → AllByRecursion IsDescribed (staying ids d.conns)
fewer d ids a = all_of_filter IsDescribed (λ (c : Conn). not (is_among ids c.id)) d.conns a

stay : (d : Desk) (m : WhoKind) → AreDescribed d → Cases d m Stay
unfolding byebye close_conn close_endpoint name_list tick newcomer with_newcomer with_endpoint without_conns without_endpoint with_claim without_claim
stay d m a = record {
  enters = λ new form. a;
  closes = λ form. a;
  comes = λ creds flags size send_mask receive_mask is none form.
      all_of_put IsDescribed sits_before (newcomer d creds (asked_by flags size send_mask receive_mask is)) d.conns
      (described is (formed (cmd.Hello flags size send_mask receive_mask is) form)) a;
  makes = λ creds is none form. a;
  says_byebye = λ c live form. fewer d (c.id ∷ []) a;
  says_close = λ c live form. fewer d (c.id ∷ []) a;
  lists = λ c flags form. a;
  ticks = λ c moment form. a;
  sends = λ c flags priority dst source payload_type cookie last is live none form. a;
  acquires = λ c flags n v live is form. a;
  releases = λ c n form. a;
  adds_rule = λ c replace cookie is form. a;
  removes_rule = λ c cookie form. a;
  seals = λ c bytes n form. a;
  unseals = λ c number form. a;
  sets = λ c is form. a;
  keeps = λ e is its form. a;
  ends = λ e its form. fewer d (ids_of (on_endpoint d e)) a;
  learns_byebye = λ seat form. a;
  learns_close = λ seat form. a;
}

pub descriptions_stay : DescriptionsStay
descriptions_stay d w x p a form e = of_command d w Stay (stay d w.member a) x p e form
