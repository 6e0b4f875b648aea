-- Headers of methods.
use Rattle.std.proofs.Common.{◌≡◌, ℕ, List, [], ◌∷◌, ◌++◌, subst, map}
use Rattle.std.specs.Prelude.{Option, Some, None}
use Rattle.std.specs.Str.{bytes_eq}
use Rattle.pm_syn.specs.declared.expression.Expr.{Expr}
use Rattle.pm_syn.specs.declared.statement.Node.{Node, Node-F, out-Node, fold_out-Node}
use Rattle.pm_syn.specs.declared.statement.Node.TheFolds.{map-Node}
use Rattle.pm_syn.specs.declared.statement.Par.{Par}
use Rattle.pm_syn.specs.declared.statement.Stmt.{Stmt, Stmt-F, out-Stmt}
use Rattle.pm_syn.specs.declared.statement.Stmt.TheFolds.{map-Stmt}
use Rattle.pm_values.specs.declared.fault.BuildFault.TheVariants.{WrongKind}
use Rattle.pm_elab.specs.declared.body.Argument.{Argument}
use Rattle.pm_elab.specs.declared.body.MethodTypes.{MethodTypes}
use Rattle.pm_elab.specs.declared.class.ConstructedClass.TheVariants as class
use Rattle.pm_elab.specs.declared.elaboration.Elaboration.{Elaboration}
use Rattle.pm_elab.specs.declared.frame.Frame.{Frame}
use Rattle.pm_elab.specs.Expressions.{Make}
use Rattle.pm_elab.specs.Methods.{annotation, argument_by, argument, arguments_from, result_type, method_types}
use Rattle.pm_elab.specs.Methods.{GuardLine, method, def_header, header_at, header, headers_from}
use Rattle.pm_elab.specs.Sites.{Scope, Site, outside}
use Rattle.pm_elab.specs.Statements.{body_nodes}
use Rattle.pm_elab_laws.specs.Names.{Words, joined, names_of_statement, statement_over, names_of_node, node_over}
use Rattle.pm_elab_laws.specs.Names.{names_of}
use Rattle.pm_elab_laws.proofs.Keeping.{Each, Where, Origin, Keeping, Runs, bind, lifted, done, failed}
use Rattle.pm_elab_laws.proofs.Places.{IsScope, IsSite, IsMake, scope_on, site_on, fork, each_so, each_more, each_left}
use Rattle.pm_elab_laws.proofs.Places.{each_right}
use Rattle.pm_elab_laws.proofs.Expressions.{meaning_runs}
use Rattle.pm_elab_laws.proofs.Statements.{own_names}

-- the types of a method are as they must be
pub record AreTypes (k : Keeping) (m : Elaboration) (types : MethodTypes) : Type 0 where
  pub arguments : Each (λ (a : Argument). k.IsType m a.ty) types.arguments
  pub result : Where (k.IsType m) types.result

module _ (k : Keeping) where
  -- names of a node are those of its statement and of its body
  pub node_names : (n : Node) → Each k.IsName (names_of_node n)
      → Each k.IsName (node_over (map-Node Node Words names_of_node (out-Node n)))
  unfolding names_of_node
  node_names n each = subst (Each k.IsName) (fold_out-Node Words node_over n) each

  pub statement_names : (n : Node) → Each k.IsName (names_of_node n)
      → Each k.IsName (statement_over (map-Stmt Stmt Words names_of_statement (out-Stmt (out-Node n).stmt)))
  statement_names n each = own_names k (out-Node n).stmt (each_left k.IsName (names_of_statement (out-Node n).stmt)
      (joined (map names_of_node (out-Node n).body)) (node_names n each))

  pub body_names : (n : Node) → Each k.IsName (names_of_node n) → Each k.IsName (names_of (out-Node n).body)
  body_names n each = each_right k.IsName (names_of_statement (out-Node n).stmt) (joined (map names_of_node
      (out-Node n).body)) (node_names n each)

  pub outside_site : (o : Origin) (m : Elaboration) (file : Scope) (line : ℕ) → IsScope k m file
      → IsSite k o m (outside file line)
  outside_site o m file line scope = record { file = scope; frame = tt }

  module _ (make : Make) (makes : IsMake k make) (o : Origin) where
    -- a type that an annotation gives
    pub annotation_runs : (e : Expr) (m : Elaboration) (site : Site) → IsSite k o m site
        → Runs k m (annotation make e site m) (λ t n. k.IsType n t)
    unfolding annotation
    annotation_runs e m site at = bind k m _ _ (meaning_runs k make makes e o m site at) (λ x leads is. lifted k x.1
        _ (k.type_of_value m x.1 site.frame site.line x.0 is))

    argument_by_runs : (note default : Option Expr) (m : Elaboration) (site : Site) → IsSite k o m site
        → Runs k m (argument_by make note default site m) (λ t n. k.IsType n t)
    argument_by_runs (Some e) None m site at = annotation_runs e m site at
    argument_by_runs (Some e) (Some d) m site at = failed k m (WrongKind site.line)
    argument_by_runs None default m site at = failed k m (WrongKind site.line)

    argument_runs : (p : Par) (m : Elaboration) (site : Site) → IsSite k o m site
        → Runs k m (argument make p site m) (λ a n. k.IsType n a.ty)
    unfolding argument
    argument_runs p m site at = bind k m _ _ (argument_by_runs p.note p.default m site at) (λ x leads is. done k x.1
        _ is)

    arguments_runs : (ps : List Par) (as_ : List Argument) (m : Elaboration) (site : Site) → IsSite k o m site
        → Each (λ (a : Argument). k.IsType m a.ty) as_
        → Runs k m (arguments_from make as_ ps site m) (λ bs n. Each (λ (a : Argument). k.IsType n a.ty) bs)
    unfolding arguments_from
    arguments_runs [] as_ m site at each = done k m as_ each
    arguments_runs (p ∷ ps) as_ m site at each = bind k m _ _ (argument_runs p m site at) (λ x leads is.
        arguments_runs ps (as_ ++ x.0 ∷ []) x.1 site (site_on k o m x.1 site leads at)
        (each_more (λ (a : Argument). k.IsType x.1 a.ty) as_ (x.0 ∷ []) (each_so (λ (a : Argument). k.IsType m a.ty)
        (λ (a : Argument). k.IsType x.1 a.ty) as_ (λ a. k.type_on m x.1 a.ty leads) each) (is, tt)))

    result_runs : (e : Option Expr) (m : Elaboration) (site : Site) → IsSite k o m site
        → Runs k m (result_type make e site m) (λ t n. Where (k.IsType n) t)
    unfolding result_type
    result_runs None m site at = done k m None tt
    result_runs (Some e) m site at = bind k m _ _ (annotation_runs e m site at) (λ x leads is. done k x.1 (Some x.0) is)

    types_runs : (ps : List Par) (result : Option Expr) (m : Elaboration) (site : Site) → IsSite k o m site
        → Runs k m (method_types make ps result site m) (λ types n. AreTypes k n types)
    unfolding method_types
    types_runs ps result m site at = bind k m _ _ (arguments_runs ps [] m site at tt) (λ x leads each.
        bind k x.1 _ _ (result_runs result x.1 site (site_on k o m x.1 site leads at)) (λ y onward is.
        done k y.1 _ (record {
          arguments = each_so (λ (a : Argument). k.IsType x.1 a.ty) (λ (a : Argument). k.IsType y.1 a.ty) x.0
              (λ a. k.type_on x.1 y.1 a.ty onward) each;
          result = is;
        })))

    module _ (file : Scope) (component : o.class ≡ class.Component) where
      method_runs : (name : List ℕ) (ps : List Par) (result : Option Expr) (g : Option GuardLine) (line : ℕ)
          (nodes : List Node) (m : Elaboration) (f : Frame) → IsScope k m file → k.IsFrame o m f → k.IsName name
          → Runs k m (method make file name ps result g line nodes f m) (λ h n. k.IsFrame o n h)
      unfolding method
      method_runs name ps result g line nodes m f scope is names = bind k m _ _ (types_runs ps result m
          (outside file line) (outside_site o m file line scope)) (λ x leads types.
          lifted k x.1 _ (k.method_frame o x.1 name x.0 g line nodes f component (k.frame_on o m x.1 f leads is)
          names types.arguments types.result))

      def_header_runs : (name : List ℕ) (ps : List Par) (result : Option Expr) (g : Option GuardLine) (line : ℕ)
          (nodes : List Node) (m : Elaboration) (f : Frame) → IsScope k m file → k.IsFrame o m f → k.IsName name
          → Runs k m (def_header make file name ps result g line nodes f m) (λ h n. k.IsFrame o n h)
      unfolding def_header
      def_header_runs name ps result g line nodes m f scope is names = fork k m (bytes_eq name _) _ _
          (done k m f is) (method_runs name ps result g line nodes m f scope is names)

      header_at_runs : (g : Option GuardLine) (n : Node-F Node) (s : Stmt-F Stmt) (m : Elaboration) (f : Frame)
          → IsScope k m file → k.IsFrame o m f
          → Each k.IsName (statement_over (map-Stmt Stmt Words names_of_statement s))
          → Runs k m (header_at make file g n s f m) (λ r n. k.IsFrame o n r.0)
      header_at_runs g n (Stmt-F.NonBlocking e) m f scope is names = done k m _ is
      header_at_runs g n (Stmt-F.Def name own ps result after) m f scope is names =
          bind k m _ _ (def_header_runs name ps result g n.line (body_nodes after n.body n.line) m f scope is
          names.0) (λ x leads more. done k x.1 _ more)
      header_at_runs g n (Stmt-F.Assert e) m f scope is names = done k m _ is
      header_at_runs g n (Stmt-F.Assign op x y) m f scope is names = done k m _ is
      header_at_runs g n (Stmt-F.JoinLambda to e) m f scope is names = done k m _ is
      header_at_runs g n (Stmt-F.Note to t e) m f scope is names = done k m _ is
      header_at_runs g n (Stmt-F.Do e) m f scope is names = done k m _ is
      header_at_runs g n Stmt-F.Import m f scope is names = done k m _ is
      header_at_runs g n Stmt-F.Doc m f scope is names = done k m _ is
      header_at_runs g n Stmt-F.Pass m f scope is names = done k m _ is
      header_at_runs g n (Stmt-F.Class name base) m f scope is names = done k m _ is
      header_at_runs g n (Stmt-F.Mark name) m f scope is names = done k m _ is
      header_at_runs g n (Stmt-F.Return e) m f scope is names = done k m _ is
      header_at_runs g n (Stmt-F.If c s) m f scope is names = done k m _ is
      header_at_runs g n (Stmt-F.Elif c s) m f scope is names = done k m _ is
      header_at_runs g n (Stmt-F.Else s) m f scope is names = done k m _ is
      header_at_runs g n (Stmt-F.For name es s) m f scope is names = done k m _ is

      -- the lines of a class
      pub headers_runs : (g : Option GuardLine) (ns : List Node) (m : Elaboration) (f : Frame) → IsScope k m file
          → k.IsFrame o m f → Each k.IsName (names_of ns)
          → Runs k m (headers_from make file g ns f m) (λ h n. k.IsFrame o n h)
      unfolding headers_from header
      headers_runs g [] m f scope is names = done k m f is
      headers_runs g (n ∷ ns) m f scope is names =
          bind k m _ _ (header_at_runs g (out-Node n) (out-Stmt (out-Node n).stmt) m f scope is (statement_names n
          (each_left k.IsName (names_of_node n) (names_of ns) names))) (λ x leads more.
          headers_runs x.0.1 ns x.1 x.0.0 (scope_on k m x.1 file leads scope) more (each_right k.IsName
          (names_of_node n) (names_of ns) names))
