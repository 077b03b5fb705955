-- `then` makes the empty struct, with the past that its clause names.
use Rattle.std.proofs.Common.{List, [], ◌∷◌, ◌++◌, refl}
use seplogic.Ra.Ura.{Ura}
use mir.Syntax.{Fn, Args, Dict, a_type, dcons, dnil}
use mir.Val.{Val, vptr}
use mir.MapTy.{inst_fn}
use base.Logic.{SProp, ent}
use prog.Memory.{Memory}
use prog.Routine.{Routine}
use prog.Wp.{Calls, Loops, WpFn, Tables}
use contract.Monad.{Fun}
use contract.Running.{tables, tables_of}
use sound.WpLaws.{WpFn-mono}
use types.Logic.{Logic}
use types.Kit.{‵, raw, ◌⊛◌, prop, ◌$◌, ◌∵◌, !, qed, move, keep, drop, split, fsplit, fjoin, feq_l, regoal, suffices, done}
use types.Part.{agg}
use types.Run.{enter, returns, no_more}
use types.ByLocal.{alloc_all, pass_all, free_all, look_at, sets}
use denote.Exit.{yes}
use denote.RattleType.{RattleType, owns}
use denote.Builtin.{RefOf}
use denote.Param.{param, bounded}
use denote.Signature.{plain, types_at}
use denote.Steps.{nothing}
use denote.Triple.Clauses.{Clauses, Ended, closing}
use denote.Triple.Entry.{alive}
use denote.Triple.Spec.{Meets, triple_of}
use denote.Triple.Table.{entered}
use denote.Triple.Walked.{says, Stays, stay_dropped, walk_of, ends_at, walk_Meets, Goes-dropped}
use Rattle.files_api.specs.declared.files.Files.{Ghosts}
use Rattle.real_edge.proofs.Walks.{none, none_made}
use Rattle.real_edge.specs.contracts.past.Past as Past
use Rattle.real_edge.specs.contracts.past.Event as Event
use Rattle.real_edge.specs.Past.{next_past}
use Rattle.real_edge.specs.contracts.past.Past.then as it
use Rattle.real_edge.specs.contracts.past.Past.then.Key.{name as #self}
use Rattle.real_edge.proofs.past.Past.then.Statement as stated
use Rattle.real_edge.proofs.past.Past.then.Code as code

module _ (F H : RattleType) (G : Ghosts F.Denot H.Denot) (d dd : Dict) where
  abbrev args : Args
  args = bounded (a_type ∷ a_type ∷ []) (F, (H, tt)) (dcons d (dcons dd dnil))

  abbrev function : Fn
  function = inst_fn args code.function

  abbrev ended : Ended
  ended = it.ended F H G d dd

  abbrev stayed : Stays ended.signature.params ended.kept
  stayed = (stay_dropped _ yes, (stay_dropped _ yes, (stay_dropped _ yes, tt)))

  module _ {M : Type 1} {𝓤 : Ura M} (𝓛 : Logic 𝓤) (at_mem : Memory → SProp 𝓤) (run : Routine → Fun 𝓤) where
    open 𝓛 use {H as Heap}

    abbrev held : Clauses 𝓤 ended
    held = it.clauses F H G d dd 𝓛 at_mem run

    module _ (C : Calls 𝓤 Heap) (Λ : Loops 𝓤 Heap) (z : (walk_of 𝓛 ended stayed held).Ghost) where
      abbrev Post : Val → SProp 𝓤
      Post = (walk_of 𝓛 ended stayed held).post z

      abbrev toks : SProp 𝓤
      toks = alive 𝓛 ended.signature z.0.0 z.0.1

      walks : ent 𝓤 ((walk_of 𝓛 ended stayed held).pre z) (WpFn 𝓤 Heap C Λ function ((walk_of 𝓛 ended stayed held).args z) Post)
      walks =
          let a = z.0.3 in
          let vss = z.0.4 in
          let p : Val = vptr a.0.ref_ptr.0 a.0.ref_ptr.1 in
          let q : Val = vptr a.1.0.ref_ptr.0 a.1.0.ref_ptr.1 in
          let r : Val = vptr a.1.1.0.ref_ptr.0 a.1.1.0.ref_ptr.1 in
          let made : (Past.the_row).Denot = record { told = next_past a.1.1.0.now (G.told a.1.0.now) a.0.now.told } in
          qed 𝓛 ((raw toks ⊛ ‵ (owns (types_at ended.signature.params z.0.0) a vss)) ∷ raw ((held z.0.0 a).requires z.1) ∷ []) ∵
          keep ! (0 ∷ []) $ split ! $ move ! (1 ∷ []) $
          fsplit ! $ fsplit ! $ feq_l ! (λ is0. drop ! $ fsplit ! $ fsplit ! $ feq_l ! (λ is1. drop ! $ fsplit ! $ fsplit ! $ feq_l ! (λ is2. drop ! $ drop ! $
          regoal ! (λ (us : List Val). prop (WpFn 𝓤 Heap C Λ function (us ++ (vss.1.0 ++ (vss.1.1.0 ++ []))) Post)) is0 refl $
          regoal ! (λ (us : List Val). prop (WpFn 𝓤 Heap C Λ function ((p ∷ []) ++ (us ++ (vss.1.1.0 ++ []))) Post)) is1 refl $
          regoal ! (λ (us : List Val). prop (WpFn 𝓤 Heap C Λ function ((p ∷ []) ++ ((q ∷ []) ++ (us ++ []))) Post)) is2 refl $
          enter ! C Λ function (p ∷ q ∷ r ∷ []) Post $ alloc_all ! (λ l. pass_all ! refl ((tt, tt), ((tt, tt), ((tt, tt), tt))) $
          sets ! (agg ! (no_more !)) refl (tt, tt) $
          nothing ! $ none_made ! $ fjoin ! $
          returns ! (look_at ! 0 refl) $ free_all ! refl $
          suffices ! _ (ends_at 𝓛 ended stayed held z none made (tt, (tt, (tt, tt))) (tt, (tt, (tt, tt)))) $ says ! refl $
          nothing ! $ nothing ! $ fjoin ! $ nothing ! $ fjoin ! $ nothing ! $ fjoin ! $ move ! (2 ∷ 0 ∷ 1 ∷ []) $ done !))))

    meets : (𝓣 : Tables 𝓤 Heap) → Meets 𝓛 ended.signature (WpFn 𝓤 Heap 𝓣.C 𝓣.Λ function) (closing 𝓛 ended held)
    meets 𝓣 =
        walk_Meets 𝓛 ended stayed ((Goes-dropped 𝓛 5 (RefOf (0 ∷ []) tt (plain (λ _. Past.the_row)) (λ _. tt)) yes (λ κs x f. refl), (Goes-dropped 𝓛 5 (RefOf (1 ∷ []) tt (plain (λ _. param 0 F)) (λ _. tt)) yes (λ κs x f. refl), (Goes-dropped 𝓛 5 (RefOf (2 ∷ []) tt (plain (λ _. Event.the_row)) (λ _. tt)) yes (λ κs x f. refl), tt)))) held
        (WpFn 𝓤 Heap 𝓣.C 𝓣.Λ function) (WpFn-mono 𝓤 Heap 𝓛.laws 𝓣 function) (walks 𝓣.C 𝓣.Λ)

pub then_spec : {M : Type 1} → stated.statement M
unfolding tables_of
then_spec 𝓤 𝓛 𝓜 𝓡 wired F H LF LH G d dd met glue =
    let 𝓣 : Tables 𝓤 𝓛.H = tables_of 𝓤 𝓛.H 𝓜 (tables 𝓤 𝓛.H 𝓜 𝓡 𝓡.env) in
    entered 𝓤 𝓛.H (triple_of 𝓛 (ended F H G d dd).signature (closing 𝓛 (ended F H G d dd) (held F H G d dd 𝓛 𝓜.mem 𝓡.returns))) 𝓣.C 𝓣.Λ (#self (args F H G d dd)) (function F H G d dd)
    (code.unfolded 𝓤 𝓛.H 𝓜 𝓡 wired (F, (H, tt)) d dd) (meets F H G d dd 𝓛 𝓜.mem 𝓡.returns 𝓣)
