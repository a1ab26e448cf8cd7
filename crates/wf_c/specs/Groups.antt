-- Defines how structs show group frames, and what the functions about them do.
use Rattle.std.specs.Prelude.{◌≡◌, ℕ, nat_lt, Bool, true, false, List, Option, Some, None, Result, Ok, Err, option_map, if◌then◌else◌}
use Rattle.wf_frame.specs.Calls.{in_bss}
use Rattle.wf_frame.specs.Refusals.{refusal_number}
use Rattle.wf_frame.specs.declared.answers.Brief.{Brief}
use Rattle.wf_frame.specs.declared.answers.Brief.TheVariants as brief
use Rattle.wf_frame.specs.declared.notes.Ask.TheVariants.{Group as AboutGroups}
use Rattle.wf_frame.specs.declared.notes.GroupAsk.TheVariants as ask
use Rattle.wf_frame.specs.declared.notes.GroupReply.TheVariants as answer
use Rattle.wf_frame.specs.declared.notes.Refusal.{Refusal}
use Rattle.wf_frame.specs.declared.notes.Refusal.TheVariants as refusal
use Rattle.wf_def_world.specs.Group.{bss_count}
use Rattle.wf_octets.specs.GroupLayout.{group_octets}
use Rattle.wf_octets.specs.declared.tim.Tim.{Tim}
use Rattle.wf_send_parts.specs.declared.group.GroupCounts.{GroupCounts}
use Rattle.wf_send_parts.specs.declared.group.GroupFlight.{GroupFlight}
use Rattle.wf_send_parts.specs.declared.group.GroupFrame.{GroupFrame}
use Rattle.wf_send_half_model.specs.Changes.{after_group_call}
use Rattle.wf_send_half_model.specs.Half.{group_in}
use Rattle.wf_path.specs.Group.{group_header_of}
use Rattle.wf_c.specs.Calls.{IsCalled}
use Rattle.wf_c.specs.Numbers.{is_up}
use Rattle.wf_c.specs.declared.group.Group.{Group}
use Rattle.wf_c.specs.declared.group.GroupTally.{GroupTally}
use Rattle.wf_c.specs.declared.held.Held.{Held}
use Rattle.wf_c.specs.declared.reply.Reply.{Reply}

-- the code of an address that belongs to no group
abbrev pub bad_address : ℕ
bad_address = 64

-- the caller's struct for a group frame
abbrev pub group_shown : GroupFrame → Group
group_shown x = record { id = x.id; tag = x.tag; length = x.len; to = x.to }

-- whether a path has BSS b
abbrev pub has_bss : Held → ℕ → Bool
has_bss h b = nat_lt b (bss_count h.path.half.config.bsses)

-- the group frame of BSS b that is on the air, if there is one; a BSS that does not exist has none
abbrev pub flying_in : Held → ℕ → Option GroupFlight
flying_in h b = if has_bss h b then (group_in h.path.half b).flying else None

-- and as the caller's struct shows it
abbrev pub flying_shown : Held → ℕ → Option Group
flying_shown h b = option_map group_shown (option_map (λ x. x.frame) (flying_in h b))

-- the struct after this group frame is shown, if there is one: otherwise it is unchanged
abbrev pub shown_or : {X : Type 0} → X → Option X → X
shown_or old None = old
shown_or old (Some new) = new

-- the answer to the acceptance of a group frame
abbrev pub accepted_brief : Result ℕ Refusal → Brief
accepted_brief (Ok id) = brief.Group (answer.Queued id)
accepted_brief (Err reason) = brief.Refused reason

-- whether an answer is a refusal
abbrev pub is_refusal : Brief → Bool
is_refusal (brief.Refused reason) = true
is_refusal b = false

-- The effect of the acceptance of a group frame of BSS b: h before, k after, and the caller's struct. If it
-- is not refused, the frame goes last in the queue of the BSS, with its owner's tag and its destination.
pub record IsGroupAccepted (h : Held) (b len tag : ℕ) (to : List ℕ) (k : Held) (shown : Reply) : Type 0 where
  pub called : IsCalled h (AboutGroups (in_bss b (ask.Accept len))) k shown
  pub queued : is_refusal k.answer.brief ≡ false →
      k.path.half ≡ after_group_call h.path.half (in_bss b (ask.Accept len)) tag to

-- The effect of a pull of a group frame of BSS b: h before, k after, and the caller's structs. If it is not
-- refused, the frame is shown; otherwise its struct is unchanged.
pub record IsGroupPulled (h : Held) (b : ℕ) (k : Held) (shown : Reply) (old new : Group) : Type 0 where
  pub called : IsCalled h (AboutGroups (in_bss b ask.Pull)) k shown
  pub frame : is_refusal k.answer.brief ≡ false → new ≡ shown_or old (flying_shown k b)
  pub kept : is_refusal k.answer.brief ≡ true → new ≡ old

-- The effect of the end of the transmission of a group frame of BSS b: h before, k after, and the caller's
-- structs. The frame that was on the air is shown, if there was one.
pub record IsGroupEnded (h : Held) (b : ℕ) (k : Held) (shown : Reply) (old new : Group) : Type 0 where
  pub called : IsCalled h (AboutGroups (in_bss b ask.Done)) k shown
  pub frame : new ≡ shown_or old (flying_shown h b)

-- ---- readers

-- whether the path of a handle has BSS b
abbrev pub holds_bss : Option Held → ℕ → Bool
holds_bss None b = false
holds_bss (Some h) b = has_bss h b

-- the code of reading about BSS b: 0 if it exists
abbrev pub bss_code : Option Held → ℕ → ℕ
bss_code o b = if holds_bss o b then 0 else refusal_number refusal.BadBss

-- the header of the group frame of BSS b on the air with this source, if there is one
abbrev pub header_told : Option Held → ℕ → List ℕ → Option (List ℕ)
header_told None b source = None
header_told (Some h) b source =
    option_map (λ x. group_octets (group_header_of h.path.addresses b source x)) (flying_in h b)

-- the code of reading it
abbrev pub told_code : Option (List ℕ) → ℕ
told_code None = refusal_number refusal.Nothing
told_code (Some octets) = 0

abbrev pub header_code : Option Held → ℕ → List ℕ → ℕ
header_code o b source =
    if holds_bss o b then told_code (header_told o b source) else refusal_number refusal.BadBss

-- the counts that the caller's struct shows
abbrev pub group_counts_shown : GroupTally → GroupCounts
group_counts_shown t = record {
  accepted = t.accepted;
  sent = t.sent;
  queued = t.queued;
  flying = t.flying;
  air = t.air;
  numbers = t.numbers;
}

-- the fields of a TIM that the caller gives
abbrev pub tim_given : (count period group : ℕ) → Tim
tim_given count period group = record { count = count; period = period; group = is_up group }
