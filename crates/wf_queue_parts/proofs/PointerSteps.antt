-- Steps that the proofs by hand share: runs and owned nodes are split and made.
use Rattle.std.proofs.Common.{◌≡◌, ◌∙◌, List, [], ◌∷◌, ◌++◌, refl, ap}
use seplogic.Ra.Ura.{Ura}
use base.Fraction.{full_share}
use base.Logic.{ent, sep}
use base.Fml.{Fml, ftrue, fsep, fat}
use mir.Syntax.{Ty, ty_ptr}
use Prim.Native.Nat.{ℕ}
use types.Logic.{sem}
use borrow.Table.OneValue.{part_in, part_out}
use denote.Memory.{part_at}
use mir.Val.{Val, vstruct, vcons, vnil, of_list}
use types.Logic.{Logic}
use types.Kit.{Item, Goal, Seq, Step, step, some, ‵, ◌⊛◌, ◌$◌, ◌∵◌, !, qed, done, use1, use2, move, drop, split, pick, rewrite, fsplit, fjoin, fpick, fpack, feq_i, feq_l}
use denote.RattleType.{Valss}
use denote.RawPtr.{Ptr, ptr_val}
use denote.Steps.{nothing, only}
use denote.Struct.Struct.{within}
use denote.Struct.Owning.{shape}
use denote.Struct.Declared.{shape as node-shape}
use denote.RattleType.{RattleType}
use denote.Memory.{lone}
use denote.Struct.Struct.{as_fields}
use denote.Struct.Tuple.{Tuple, tuple_type}
use Rattle.std_alloc.proofs.RcSteps.{Good, Ptr-Good}
use Rattle.std_heap.specs.contracts.Global.{the_row as Heap}
use Rattle.wf_queue_parts.specs.declared.chain.node.Node.{Node}
use Rattle.wf_queue_parts.specs.contracts.chain.node.Node.{the_row as Node-row}
use Rattle.wf_frame.specs.contracts.frames.Frame.{the_row as Frame-row}
use Rattle.wf_queue_parts.specs.contracts.chain.node.Node as N
use Rattle.wf_queue_parts.specs.Links.{Placed, nodes_own}
use Rattle.wf_queue_parts.specs.declared.chain.run.Run.{Run}
use Rattle.wf_queue_parts.specs.contracts.chain.run.Run as C

abbrev pub words : Ptr → Ptr → Val
words h t = vstruct (vcons (ptr_val h) (vcons (ptr_val t) vnil))

-- the value of two fields
abbrev pub both : Val → Val → Val
both v w = vstruct (vcons v (vcons w vnil))

pub run_good : (h t : Ptr) → Good (lone (C.the_row).mir) (words h t)
run_good h t = as_fields (ty_ptr ∷ ty_ptr ∷ []) (ptr_val h ∷ ptr_val t ∷ []) (Ptr-Good h, (Ptr-Good t, tt))

module _ {M : Type 1} {𝓤 : Ura M} {𝓛 : Logic 𝓤} {K : Type 0} {Γ : List (Item 𝓤)} {G : Goal 𝓤 𝓛.H} where
  pub run_out : K → (d : Run) (vs : List Val) →
      (vs ≡ words d.head d.tail ∷ [] → Seq K 𝓛 (‵ (nodes_own d.nodes) ∷ Γ) G) →
      Seq K 𝓛 (‵ ((C.the_row).own_val d vs) ∷ Γ) G
  run_out t d vs k =
      fsplit t $ fpick t (λ vss. fsplit t $ feq_l t
      (λ all. fsplit t $ feq_l t (λ e₀. fsplit t $ feq_l t (λ e₁. drop t $
      k (all ∙ (λ i. vstruct (of_list (e₀ i ++ (e₁ i ++ []))) ∷ []))))))

  pub run_in : K → (d : Run) → Step K 𝓛 (‵ ((C.the_row).own_val d (words d.head d.tail ∷ [])) ∷ Γ) G
      (‵ (nodes_own d.nodes) ∷ Γ) G
  run_in t d = step (λ s.
      let v = words d.head d.tail in
      nothing t $ feq_i t (List Val) (ptr_val d.tail ∷ []) (ptr_val d.tail ∷ []) refl $ fjoin t $ feq_i t
      (List Val) (ptr_val d.head ∷ []) (ptr_val d.head ∷ []) refl $ fjoin t $
      feq_i t (List Val) (v ∷ []) (v ∷ []) refl $ fjoin t $
      fpack t (Valss (shape C.the_type).fields) (within (shape C.the_type) (d.head, (d.tail, tt)) (v ∷ []))
      (ptr_val d.head ∷ [], (ptr_val d.tail ∷ [], tt)) $ fjoin t $ s)

  pub pair_in : K → (P Q : RattleType) (x : P.Denot) (y : Q.Denot) (v w : Val) →
      Step K 𝓛 (‵ ((Tuple (P ∷ Q ∷ [])).own_val (x, y) (both v w ∷ [])) ∷ Γ) G
      (‵ (P.own_val x (v ∷ [])) ∷ ‵ (Q.own_val y (w ∷ [])) ∷ Γ) G
  pair_in t P Q x y v w = step (λ s.
      let S = node-shape (tuple_type (P ∷ Q ∷ [])) in
      nothing t $ move t (2 ∷ 0 ∷ []) $ fjoin t $ move t (1 ∷ 0 ∷ []) $ fjoin t $ feq_i t (List Val)
      (both v w ∷ []) (both v w ∷ []) refl $ fjoin t $
      fpack t (Valss S.fields) (within S (x, (y, tt)) (both v w ∷ [])) (v ∷ [], (w ∷ [], tt)) $ s)

-- the nodes of two runs, one after the other
module _ {M : Type 1} {𝓤 : Ura M} (𝓛 : Logic 𝓤) where
  pub append_out : (xs ys : List Placed) → ent 𝓤 (sem 𝓛 (nodes_own (xs ++ ys)))
      (sep 𝓤 (sem 𝓛 (nodes_own xs)) (sem 𝓛 (nodes_own ys)))
  append_out [] ys = qed 𝓛 (‵ (nodes_own ys) ∷ []) ∵ nothing ! $ done !
  append_out (x ∷ xs) ys = qed 𝓛 (‵ (nodes_own (x ∷ xs ++ ys)) ∷ []) ∵ fsplit ! $ move ! (1 ∷ []) $
      use1 𝓛 (‵ (nodes_own xs) ⊛ ‵ (nodes_own ys)) (append_out xs ys) $ split ! $ move !
      (2 ∷ 0 ∷ []) $ fjoin ! $ done !

  pub append_in : (xs ys : List Placed) → ent 𝓤 (sep 𝓤 (sem 𝓛 (nodes_own xs)) (sem 𝓛 (nodes_own ys)))
      (sem 𝓛 (nodes_own (xs ++ ys)))
  append_in [] ys = qed 𝓛 (‵ ftrue ∷ ‵ (nodes_own ys) ∷ []) ∵ drop ! $ done !
  append_in (x ∷ xs) ys = qed 𝓛 (‵ (nodes_own (x ∷ xs)) ∷ ‵ (nodes_own ys) ∷ []) ∵ fsplit ! $ move !
      (1 ∷ 2 ∷ []) $
      use2 𝓛 (‵ (nodes_own (xs ++ ys))) (append_in xs ys) $ move ! (1 ∷ 0 ∷ []) $ fjoin ! $ done !

-- a node in memory: its `next`, and the rest as it is
abbrev pub node_ty : Ty
node_ty = lone Node-row.mir

abbrev pub node_val : Ptr → List Val → List Val → Val
node_val n us vs = vstruct (of_list (ptr_val n ∷ (us ++ (vs ++ []))))

abbrev pub rest_own : Node → List Val → List Val → Fml
rest_own x us vs = fsep (Heap.own_val x.alloc us) (fsep (Frame-row.own_val x.frame vs) ftrue)

module _ {M : Type 1} {𝓤 : Ura M} {𝓛 : Logic 𝓤} {K : Type 0} {Γ : List (Item 𝓤)} {G : Goal 𝓤 𝓛.H} where
  pub node_opens : K → (b o : ℕ) (x : Node) → ((us vs : List Val) →
      Seq K 𝓛 (‵ (fat full_share node_ty b o (node_val x.next us vs)) ∷ ‵ (rest_own x us vs) ∷ Γ) G) →
      Seq K 𝓛 (‵ (part_at Node-row full_share x b o) ∷ Γ) G
  node_opens t b o x k =
      use1 𝓛 (some (λ (v : Val). ‵ (fat full_share node_ty b o v) ⊛ ‵ (Node-row.own_val x (v ∷ []))))
      (part_out 𝓛 Node-row refl full_share x b o) $ pick t (λ v. split t $ move t (1 ∷ []) $
      fpick t (λ vss. fsplit t $ feq_l t (λ e. fsplit t $ feq_l t (λ e₀. move t (1 ∷ []) $
      rewrite t 0 (λ (w : Val). ‵ (fat full_share node_ty b o w))
      (ap only (e ∙ (λ i. vstruct (of_list (e₀ i ++ (vss.1.0 ++ (vss.1.1.0 ++ [])))) ∷ []))) refl $ k
      vss.1.0 vss.1.1.0))))

  pub node_closes : K → (b o : ℕ) (x : Node) (us vs : List Val) →
      Step K 𝓛 (‵ (part_at Node-row full_share x b o) ∷ Γ) G
      (‵ (fat full_share node_ty b o (node_val x.next us vs)) ∷ ‵ (rest_own x us vs) ∷ Γ) G
  node_closes t b o x us vs = step (λ s.
      let v = node_val x.next us vs in
      move t (1 ∷ []) $ feq_i t (List Val) (ptr_val x.next ∷ [])
      (ptr_val x.next ∷ []) refl $ fjoin t $ feq_i t (List Val) (v ∷ []) (v ∷ []) refl $ fjoin t $
      fpack t (Valss (node-shape N.the_type).fields)
      (within (node-shape N.the_type) ((N.the_type).to x) (v ∷ []))
      (ptr_val x.next ∷ [], (us, (vs, tt))) $
      move t (1 ∷ 0 ∷ []) $ use2 𝓛 (‵ (part_at Node-row full_share x b o))
      (part_in 𝓛 Node-row refl full_share x b o v) $ s)
