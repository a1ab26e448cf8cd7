-- Proves that a capture grows by the packets of each call.
use Rattle.std.proofs.Common.{◌≡◌, refl, ap, sym, ◌∙◌, List, [], ◌∷◌, ◌++◌, append_assoc, append-nil}
use Rattle.wf_frame.specs.declared.settings.Config.{Config}
use Rattle.wf_io.specs.Capture.{file_head_octets, packet_octets}
use Rattle.wf_report.specs.ListingLaw.{Sent}
use Rattle.wf_def_world.specs.World.{World, opening}
use Rattle.wf_def_world.specs.Run.{Entry, world_after}
use Rattle.wf_def_world.specs.Step.{step}
use Rattle.wf_report.specs.Packets.{octets_of_packets}
use Rattle.wf_report.specs.Captures.{packets_by, packets_of, packets_from, capture_of}

pub octets_of-append : (one two : List Sent) →
    octets_of_packets (one ++ two) ≡ octets_of_packets one ++ octets_of_packets two
octets_of-append [] two = refl
octets_of-append (p ∷ one) two =
    ap (λ l. packet_octets p.at p.octets ++ l) (octets_of-append one two)
    ∙ sym (append_assoc (packet_octets p.at p.octets) (octets_of_packets one) (octets_of_packets two))

packets_more : (h : List Entry) (w : World) (e : Entry) →
    packets_from w (h ++ e ∷ []) ≡ packets_from w h ++ packets_by (world_after w h) e.1
unfolding packets_from world_after
packets_more [] w e = append-nil (packets_by w e.1)
packets_more (x ∷ xs) w e =
    ap (λ l. packets_by w x.1 ++ l) (packets_more xs (step w x.1).world e)
    ∙ sym (append_assoc (packets_by w x.1) (packets_from (step w x.1).world xs)
    (packets_by (world_after (step w x.1).world xs) e.1))

-- Before the first call it is the file header.
pub capture_none : (config : Config) → capture_of config [] ≡ file_head_octets
unfolding packets_from
capture_none config = append-nil file_head_octets

pub capture_more : (config : Config) (h : List Entry) (e : Entry) →
    capture_of config (h ++ e ∷ []) ≡ capture_of config h ++ packets_of (world_after (opening config) h) e.1
capture_more config h e =
    ap (λ l. file_head_octets ++ octets_of_packets l) (packets_more h (opening config) e)
    ∙ ap (λ l. file_head_octets ++ l) (octets_of-append (packets_from (opening config) h)
    (packets_by (world_after (opening config) h) e.1))
    ∙ sym (append_assoc file_head_octets (octets_of_packets (packets_from (opening config) h))
    (packets_of (world_after (opening config) h) e.1))

packets_split : (h rest : List Entry) (w : World) →
    packets_from w (h ++ rest) ≡ packets_from w h ++ packets_from (world_after w h) rest
unfolding packets_from world_after
packets_split [] rest w = refl
packets_split (x ∷ xs) rest w =
    ap (λ l. packets_by w x.1 ++ l) (packets_split xs rest (step w x.1).world)
    ∙ sym (append_assoc (packets_by w x.1) (packets_from (step w x.1).world xs)
    (packets_from (world_after (step w x.1).world xs) rest))

-- The capture of the calls so far is a prefix of that of more calls.
pub capture_front : (config : Config) (h rest : List Entry) →
    capture_of config (h ++ rest) ≡ capture_of config h
    ++ octets_of_packets (packets_from (world_after (opening config) h) rest)
capture_front config h rest =
    ap (λ l. file_head_octets ++ octets_of_packets l) (packets_split h rest (opening config))
    ∙ ap (λ l. file_head_octets ++ l) (octets_of-append (packets_from (opening config) h)
    (packets_from (world_after (opening config) h) rest))
    ∙ sym (append_assoc file_head_octets (octets_of_packets (packets_from (opening config) h))
    (octets_of_packets (packets_from (world_after (opening config) h) rest)))
