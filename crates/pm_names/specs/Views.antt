-- What a view looks at.
use Rattle.pm_values.specs.declared.value.Member.{Member}
use Rattle.pm_elab.specs.Views.{View, viewed, member_seen}
use Rattle.pm_names.specs.declared.view.View.{View as LentView}

-- the view that the code's references lead to
abbrev pub view_of : LentView → View
view_of v = record { child = v.child; children = v.children.now }

-- a member of an interface, as the component above sees it
abbrev pub viewed_member : View → Member → Member
viewed_member view m = record { name = m.name; value = viewed view m.value }

-- a member of an interface in an interface, as the outer one's own `construct` sees it
abbrev pub seen_member : Member → Member
seen_member m = record { name = m.name; value = member_seen m.value }
